use Rattle.std.proofs.Common.{◌≤◌, sym, subst}
use Rattle.std.specs.FinMap.{len}
use Rattle.hd_layer.specs.declared.limits.Which.TheVariants.{Prims}
use Rattle.hd_layer.specs.Limits.{limit_of}
use Rattle.hd_retained.specs.Layers.{Layer}
use Rattle.hd_stack.proofs.Counted.{few_read}
use Rattle.hd_stack.proofs.stack.input_of.Goals as goal

pub returns-clause-sound : goal.returns-clause-sound
returns-clause-sound c = record {
  closed = c.is_in_step.ensures;
  used = c.has_used_properties.ensures;
  conforms = c.conforms.ensures;
  few = subst (λ (l : Layer). len l ≤ limit_of Prims) (sym c.in_ok-input.ensures.layer) (few_read c.args.layer c.requires);
}
