-- `of` makes a value without bytes, whose ghost field is the scene of what the reference shows. The proof is by hand, along that
-- of the toolchain's `Snapshot::of`: a ghost field is written by no code, so the value's meaning is given here.
use mathlib.Core.Path.{refl, sym, subst}
use Prim.Native.Nat.{ℕ}
use mathlib.Core.List.{List, [], ◌∷◌, ◌++◌}
use seplogic.Ra.Ura.{Ura}
use mir.Syntax.{Fn, Args, Dict, a_type, dcons, dnil}
use mir.Val.{Val, vptr, vstruct, vcons, vnil}
use mir.MapTy.{inst_fn}
use base.Logic.{SProp, ent, via, fst∗, snd∗}
use base.Fml.{Fml}
use prog.Memory.{Memory}
use prog.Routine.{Routine}
use prog.Wp.{Calls, Loops, WpFn, Tables}
use types.Logic.{Logic, sem}
use contract.Monad.{Fun, fact_use}
use contract.Running.{tables, tables_of}
use sound.WpLaws.{WpFn-mono}
use types.Kit.{‵, raw, ◌⊛◌, ◌$◌, ◌∵◌, !, qed, move, keep, split, join, fjoin, use0, suffices, done}
use types.Run.{no_more, and_then, returns, enter}
use types.Part.{agg}
use types.ByLocal.{alloc_all, pass_all, free_all, look_at, get, sets}
use denote.RattleType.{RattleType, owns}
use denote.Exit.{yes}
use denote.Laws.{Are, Ises, owns_show, showss}
use denote.Param.{param, bounded}
use denote.Shadow.{makes_shadow}
use denote.Builtin.{RefOf}
use denote.Signature.{types_at, type_at, plain}
use denote.Steps.{nothing}
use denote.Triple.Clauses.{Clauses, Ended, closing}
use denote.Triple.Entry.{Res, on_entry, alive}
use denote.Triple.Spec.{Meets, triple_of}
use denote.Triple.Table.{entered}
use denote.Triple.Walked.{says, Stays, stay_dropped, walk_of, ends_at, Goes-dropped, walk_Meets}
use Rattle.hd_scene.specs.declared.scene_index.SceneIndex.{Ghosts}
use Rattle.hd_scene.specs.contracts.kept.Kept.of as contract_of
use Rattle.hd_scene.specs.contracts.kept.Kept.of.Key.{name as #self}
use Rattle.hd_scene.proofs.kept.Kept.of.Statement as stated
use Rattle.hd_scene.proofs.kept.Kept.of.Code as code

-- an index's type and that of its origin, with what the trait means at them
module _ (Index Origin : RattleType) (meaning : Ghosts Index.Denot Origin.Denot) (d : Dict) where
  abbrev args : Args
  args = bounded (a_type ∷ a_type ∷ []) (Index, (Origin, tt)) (dcons d dnil)

  abbrev function : Fn
  function = inst_fn args code.function

  abbrev ended : Ended
  ended = contract_of.ended Index Origin meaning d

  abbrev stayed : Stays ended.signature.params ended.kept
  stayed = (stay_dropped (RefOf (0 ∷ []) tt (plain (λ _. param 0 Index)) (λ _. tt)) yes, tt)

module _ (Index Origin : RattleType) (meaning : Ghosts Index.Denot Origin.Denot) (d : Dict) {M : Type 1} {𝓤 : Ura M} (𝓛 : Logic 𝓤) (at_mem : Memory → SProp 𝓤) (run : Routine → Fun 𝓤) where
  open 𝓛 use {H}

  abbrev end : Ended
  end = ended Index Origin meaning d

  abbrev stays : Stays end.signature.params end.kept
  stays = stayed Index Origin meaning d

  abbrev body : Fn
  body = function Index Origin meaning d

  abbrev held : Clauses 𝓤 end
  held = contract_of.clauses Index Origin meaning d 𝓛 at_mem run

  module _ (C : Calls 𝓤 H) (Λ : Loops 𝓤 H) (z : (walk_of 𝓛 end stays held).Ghost) where
    abbrev At : List Val → (walk_of 𝓛 end stays held).Ghost
    At us = ((z.0.0, z.0.1, z.0.2, z.0.3, (us, tt)), z.1)

    abbrev Post : List Val → Val → SProp 𝓤
    Post us = (walk_of 𝓛 end stays held).post (At us)

    abbrev Goes : List Val → Type 1
    Goes us = ent 𝓤 ((walk_of 𝓛 end stays held).pre (At us)) (WpFn 𝓤 H C Λ body (us ++ []) (Post us))

    -- where the reference lies
    abbrev block : ℕ
    block = z.0.3.0.ref_ptr.0

    abbrev offset : ℕ
    offset = z.0.3.0.ref_ptr.1

    abbrev tokens : SProp 𝓤
    tokens = alive 𝓛 end.signature z.0.0 z.0.1

    abbrev passed : Fml
    passed = owns (types_at end.signature.params z.0.0) z.0.3 (vptr block offset ∷ [], tt)

    walks : Goes (vptr block offset ∷ [])
    walks =
        let made : Val = vstruct (vcons (vstruct vnil) vnil) in
        let kept : Res end.signature z.0.0 = record { marker = record {}; scene = meaning.scene z.0.3.0.now } in
        let owned : Fml = (type_at end.signature.result z.0.0).own_val kept (made ∷ []) in
        qed 𝓛 ((raw tokens ⊛ ‵ passed) ∷ raw ((held z.0.0 z.0.3).requires z.1) ∷ []) ∵ split ! $ keep ! (0 ∷ []) $
        enter ! C Λ body (vptr block offset ∷ []) _ $ alloc_all ! (λ l. pass_all ! refl ((tt, tt), tt) $
        sets ! (agg ! (no_more !)) refl (tt, tt) $ sets ! (agg ! (and_then ! (get ! refl) (no_more !))) refl (tt, (tt, tt)) $
        returns ! (look_at ! 0 refl) $ free_all ! refl $
        use0 𝓛 (‵ owned) (makes_shadow 𝓛 owned ((λ vss. (tt, ((λ uss. (tt, tt)), tt))), tt) (((vstruct vnil ∷ [], tt), (refl, ((tt, (refl, tt)), tt))), tt)) $
        suffices ! _ (ends_at 𝓛 end stays held (At (vptr block offset ∷ [])) made kept (tt, tt) (tt, tt)) $ says ! refl $
        nothing ! $ nothing ! $ fjoin ! $ join ! $ move ! (1 ∷ 0 ∷ []) $ join ! $ done !)

  meets : (𝓣 : Tables 𝓤 H) → Meets 𝓛 end.signature (WpFn 𝓤 H 𝓣.C 𝓣.Λ body) (closing 𝓛 end held)
  meets 𝓣 =
      walk_Meets 𝓛 end stays (Goes-dropped 𝓛 3 (RefOf (0 ∷ []) tt (plain (λ _. param 0 Index)) (λ _. tt)) yes (λ κs x f. refl), tt) held
      (WpFn 𝓤 H 𝓣.C 𝓣.Λ body) (WpFn-mono 𝓤 H 𝓛.laws 𝓣 body)
      (λ z. let given = z.0.3 in let values = z.0.4 in let types : List RattleType = types_at end.signature.params z.0.0 in
      let entry : SProp 𝓤 = on_entry 𝓛 end.signature z.0.0 z.0.1 given values in
      fact_use 𝓤 (Are types (Ises types) given values) (via 𝓤 (sem 𝓛 (owns types given values)) (via 𝓤 entry (fst∗ 𝓤 entry ((held z.0.0 given).requires z.1)) (snd∗ 𝓤 (alive 𝓛 end.signature z.0.0 z.0.1) (sem 𝓛 (owns types given values)))) (owns_show 𝓛 types (Ises types) (showss 𝓛 types) given values)) (λ are.
      subst (Goes 𝓣.C 𝓣.Λ z) (sym are.0.0) (walks 𝓣.C 𝓣.Λ z)))

pub of_spec : {M : Type 1} → stated.statement M
unfolding tables_of
of_spec 𝓤 𝓛 𝓜 𝓡 wired Index Origin LY LO meaning d met =
    let 𝓣 : Tables 𝓤 𝓛.H = tables_of 𝓤 𝓛.H 𝓜 (tables 𝓤 𝓛.H 𝓜 𝓡 𝓡.env) in
    entered 𝓤 𝓛.H (triple_of 𝓛 (ended Index Origin meaning d).signature (closing 𝓛 (ended Index Origin meaning d) (contract_of.clauses Index Origin meaning d 𝓛 𝓜.mem 𝓡.returns))) 𝓣.C 𝓣.Λ (#self (args Index Origin meaning d)) (function Index Origin meaning d) (code.unfolded 𝓤 𝓛.H 𝓜 𝓡 wired (Index, (Origin, tt)) d)
    (meets Index Origin meaning d 𝓛 𝓜.mem 𝓡.returns 𝓣)
