use Rattle.hd_registry.proofs.Among.{among_kept}
use Rattle.hd_registry.proofs.digests.drop_from.Goals as goal

pub returns : goal.returns
returns c = among_kept c.args.place c.args.places.now.items c.retain_others.new.places.items c.retain_others.ensures
