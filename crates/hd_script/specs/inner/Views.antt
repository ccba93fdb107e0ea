-- Words as the code holds them.
use Rattle.hd_script.specs.declared.words.Word as coded
use Rattle.hd_script.specs.Lines.{Word}

abbrev pub word_view : coded.Word → Word
word_view w = record { text = w.text.now; after = w.after.now }
