-- The sizes of scenes: the empty one has no rows, and that of a stack is small enough for an index.
use Rattle.std.proofs.Common.{◌≡◌, ◌≤◌, ◌^◌, List, [], ◌∷◌, length, refl, sym, ap, ◌∙◌, arith}
use Rattle.std.proofs.lemmas.List.{length-map}
use Rattle.std.specs.FinMap.{empty, entries, keys, len, len-entries, len-empty}
use Rattle.std.specs.List.{filter_map}
use Rattle.hd_path.specs.Paths.{path_cmp}
use Rattle.hd_layer.specs.Limits.{limit_of}
use Rattle.hd_layer.specs.declared.limits.Which.TheVariants.{Layers}
use Rattle.hd_scene.specs.Scenes.{Scene}
use Rattle.hd_scene.specs.declared.prims.Entry.{Entry}
use Rattle.hd_rprim.specs.PrimRows.{row_of_prim, rows_of}
use Rattle.hd_retained.specs.Layers.{Layer}
use Rattle.hd_stack.specs.Stacks.{terminal_scene, AreSound}
use Rattle.hd_stack.proofs.Counted.{scenes_bounded}

nothing : {A : Type 0} (xs : List A) → length xs ≡ 0 → xs ≡ []
nothing [] h = refl
nothing (x ∷ xs) h = absurd (omega (arith, h))

pub no_rows : (scene : Scene) → scene ≡ empty → rows_of scene ≡ []
no_rows scene is =
    ap rows_of is ∙ ap (filter_map row_of_prim) (nothing (entries (empty {X = Entry} {R = path_cmp})) (sym (len-entries (empty {X = Entry} {R = path_cmp})) ∙ len-empty path_cmp Entry))

keys_length : (scene : Scene) → length (keys scene) ≡ len scene
keys_length scene = length-map (entries scene) (λ e. e.0) ∙ sym (len-entries scene)

pub few_prims : (layers : List Layer) → AreSound layers → length layers ≤ limit_of Layers → length (keys (terminal_scene layers)) ≤ 2 ^ 20
few_prims layers sound few = omega (arith, few, scenes_bounded layers sound, keys_length (terminal_scene layers))
