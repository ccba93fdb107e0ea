use Rattle.std.proofs.Common.{◌+◌, map, take, List, [], Bor, sym, subst}
use Rattle.hd_layer.specs.declared.spec.Property.{Property}
use Rattle.hd_value.specs.Maps.{Map}
use Rattle.hd_schema.specs.Authored.{with_property}
use Rattle.hd_schema.proofs.Putting.{Holds, free_at, put_holds, none_held}
use Rattle.hd_schema.proofs.Sorting.{IsOnce, prim_once, permuted_once, next_new, next_taken, moved_to, held_all}
use Rattle.hd_schema.proofs.Conforming.{authored_conforms}
use Rattle.hd_schema.proofs.Valued.{authored_each}
use Rattle.hd_schema.proofs.authoring.to_container.Goals as goal

pub loop-property-init : goal.loop-property-init
loop-property-init c = subst (λ (m : Map). Holds m []) (sym c.new-values.ensures) none_held

pub put-requires : goal.put-requires
put-requires c =
    record { free = free_at c.loop-property.values (map (λ property. property.now) (take c.loop-property.property-index c.deref-property-items.result.now)) c.property-item.result.now.name c.loop-property.invariant }

pub loop-property-preserved : goal.loop-property-preserved
loop-property-preserved c =
    let rs : List (Bor Property) = c.deref-property-items.result.now in
    let i = c.loop-property.property-index in
    let r = c.property-item.result in
    let moved = moved_to c.args.prim.now.properties c.items.result.now c.in_ok-properties.properties.items rs c.items.ensures c.deref-property-items.ensures.value c.in_ok-properties.ensures.same in
    let once : IsOnce (map (λ property. property.now) rs) = permuted_once c.args.prim.now.properties (map (λ property. property.now) rs) moved (prim_once c.args.prim.now c.requires.well_formed) in
    subst (λ (m : Map). Holds m (map (λ property. property.now) (take (i + 1) rs))) (sym c.in_ok-put.ensures.ok)
    (subst (λ (ps : List Property). Holds (with_property c.loop-property.values r.now) ps) (next_taken rs i r c.loop-property-test.true c.property-item.is)
    (put_holds c.loop-property.values (map (λ property. property.now) (take i rs)) r.now c.loop-property.invariant (next_new rs i r c.loop-property-test.true c.property-item.is once)))

pub returns-clause-values : goal.returns-clause-values
returns-clause-values c =
    let moved = moved_to c.args.prim.now.properties c.items.result.now c.in_ok-properties.properties.items c.deref-property-items.result.now c.items.ensures c.deref-property-items.ensures.value c.in_ok-properties.ensures.same in
    held_all c.loop-property.values c.args.prim.now c.deref-property-items.result.now c.loop-property.property-index c.requires.well_formed moved c.loop-property-test.false c.loop-property.invariant

pub returns-clause-each : goal.returns-clause-each
returns-clause-each c =
    let moved = moved_to c.args.prim.now.properties c.items.result.now c.in_ok-properties.properties.items c.deref-property-items.result.now c.items.ensures c.deref-property-items.ensures.value c.in_ok-properties.ensures.same in
    authored_each c.loop-property.values c.args.prim.now c.requires.well_formed
    (held_all c.loop-property.values c.args.prim.now c.deref-property-items.result.now c.loop-property.property-index c.requires.well_formed moved c.loop-property-test.false c.loop-property.invariant)

pub returns-clause-conforms : goal.returns-clause-conforms
returns-clause-conforms c =
    let moved = moved_to c.args.prim.now.properties c.items.result.now c.in_ok-properties.properties.items c.deref-property-items.result.now c.items.ensures c.deref-property-items.ensures.value c.in_ok-properties.ensures.same in
    authored_conforms c.loop-property.values c.args.prim.now c.requires.well_formed
    (held_all c.loop-property.values c.args.prim.now c.deref-property-items.result.now c.loop-property.property-index c.requires.well_formed moved c.loop-property-test.false c.loop-property.invariant)
