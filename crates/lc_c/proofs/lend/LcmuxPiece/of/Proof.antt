-- `of` copies both words of a slice.
use mathlib.Core.Path.{refl}
use Prim.Native.Nat.{ℕ, ◌<◌, ◌^◌}
use mathlib.Core.List.{List, [], ◌∷◌}
use lib.ListN.{length}
use seplogic.Ra.Ura.{Ura}
use mir.Syntax.{named, w64}
use mir.Val.{Val, vptr, vint, vstruct, vcons, vnil}
use base.Logic.{SProp, ent, via, fst∗, emp}
use base.Fml.{Lft, Share, ftrue, flft}
use prog.Memory.{Memory}
use prog.Routine.{Routine}
use prog.Wp.{Calls, Loops, WpFn, Tables}
use types.Logic.{Logic}
use contract.Monad.{Fun}
use contract.Running.{tables, tables_of}
use sound.WpLaws.{WpFn-mono}
use types.Kit.{‵, ◌⊛◌, ◌$◌, ◌∵◌, !, qed, split, join, fjoin, fpack, feq_i, flt_i, suffices, frame, done}
use types.Part.{whole, sub, agg}
use types.Run.{addr, hop, from, stop, fld, of_opd, and_then, no_more, returns, enter}
use types.ByLocal.{alloc_all, pass_all, free_all, look_at, look_in_at, get, get_in, sets}
use denote.Exit.{yes}
use denote.RattleType.{RattleType, owns, Valss}
use denote.RawPtr.{RawPtr, block_ptr}
use denote.Ref.{Bor}
use denote.Slice.{ShrSlice, slice_val, shr_slice_vals, shr_slice_Tells}
use denote.Builtin.{u8, usize}
use denote.Signature.{plain, type_at}
use denote.Steps.{nothing}
use denote.Struct.Struct.{within}
use denote.Triple.Clauses.{Clauses}
use denote.Triple.Entry.{on_entry}
use denote.Triple.Spec.{Meets, triple_of}
use denote.Triple.Table.{entered}
use denote.Triple.Walked.{says, Stays, stay_none_slice, walk_of, ends_at, walked, Goes-none_slice, walk_Meets}
use Rattle.lc_c.specs.contracts.lend.LcmuxPiece.of.Key.{name as #self}
use Rattle.lc_c.specs.contracts.lend.LcmuxPiece.of as F
use Rattle.lc_c.proofs.lend.LcmuxPiece.of.Statement as stated
use Rattle.lc_c.proofs.lend.LcmuxPiece.of.Code as code

abbrev stayed : Stays (F.ended).signature.params (F.ended).kept
stayed = (stay_none_slice (0 ∷ []) tt (plain (λ _. u8)) yes, tt)

module _ {M : Type 1} {𝓤 : Ura M} (𝓛 : Logic 𝓤) (at_mem : Memory → SProp 𝓤) (run : Routine → Fun 𝓤) where
  open 𝓛 use {H}

  abbrev clauses : Clauses 𝓤 F.ended
  clauses = F.clauses 𝓛 at_mem run

  -- the slice is lent for κ, lies at the offset o of the block b and holds xs
  module _ (κ : Lft) (q : Share) (b o : ℕ) (xs : List ℕ) where
    abbrev bytes : Bor (List ℕ)
    bytes = record { ref_ptr = (b, o); now = xs }

    abbrev words : List Val × Unit {0}
    words = (shr_slice_vals bytes, tt)

    abbrev bound : (walk_of 𝓛 F.ended stayed clauses).Ghost
    bound = (((κ, tt), (q, tt), tt, (bytes, tt), words), tt)

    abbrev Post : Val → SProp 𝓤
    Post = (walk_of 𝓛 F.ended stayed clauses).post bound

    abbrev v : Val
    v = vstruct (vcons (vptr b o) (vcons (vint w64 (length xs)) vnil))

    abbrev fields : List RattleType
    fields = RawPtr ∷ usize ∷ []

    abbrev To : RattleType
    To = type_at (F.signature).result (κ, tt)

    abbrev made : To.Denot
    made = record { bytes = block_ptr b o; len = length xs }

    module _ (C : Calls 𝓤 H) (Λ : Loops 𝓤 H) where
      walk : length xs < 2 ^ 64 → ent 𝓤 (on_entry 𝓛 F.signature (κ, tt) (q, tt) (bytes, tt) words) (WpFn 𝓤 H C Λ code.function (slice_val (b, o) (length xs) ∷ []) Post)
      walk count =
          qed 𝓛 ((‵ (flft κ q) ⊛ ‵ ftrue) ∷ ‵ (owns (ShrSlice (named 0) κ u8 ∷ []) (bytes, tt) words) ∷ []) ∵
          enter ! C Λ code.function (slice_val (b, o) (length xs) ∷ []) _ $
          alloc_all ! (λ l. pass_all ! refl ((tt, (tt, (record { fits = count }, tt))), tt) $
          sets ! (addr ! (from ! (fld ! refl (hop ! (look_in_at ! 1 (sub ! 0 refl (whole !))) (stop !))))) refl (tt, tt) $
          sets ! (of_opd ! (get_in ! (fld ! refl (stop !)) (sub ! 1 refl (whole !)))) refl (tt, record { fits = count }) $
          sets ! (agg ! (and_then ! (get ! refl) (and_then ! (get ! refl) (no_more !)))) refl (tt, (tt, (record { fits = count }, tt))) $
          returns ! (look_at ! 0 refl) $ free_all ! refl $ split ! $ suffices ! _ (ends_at 𝓛 F.ended stayed clauses bound v made (tt, tt) (tt, tt)) $ says ! (refl, refl) $ join ! $ frame ! $ frame ! $
          nothing ! $ flt_i ! (length xs) (2 ^ 64) count $ feq_i ! (List Val) (vint w64 (length xs) ∷ []) (vint w64 (length xs) ∷ []) refl $ fjoin ! $ fjoin ! $
          feq_i ! (List Val) (vptr b o ∷ []) (vptr b o ∷ []) refl $ fjoin ! $ feq_i ! (List Val) (v ∷ []) (v ∷ []) refl $ fjoin ! $
          fpack ! (Valss fields) (within (record { name = []; args = []; types = []; fields = fields }) (block_ptr b o, (length xs, tt)) (v ∷ [])) (vptr b o ∷ [], (vint w64 (length xs) ∷ [], tt)) $ done !)

  meets : (𝓣 : Tables 𝓤 H) → Meets 𝓛 F.signature (WpFn 𝓤 H 𝓣.C 𝓣.Λ code.function) (F.spec 𝓛 at_mem run)
  meets 𝓣 =
      walk_Meets 𝓛 F.ended stayed (Goes-none_slice 𝓛 1 (0 ∷ []) tt (plain (λ _. u8)) yes, tt) clauses (WpFn 𝓤 H 𝓣.C 𝓣.Λ code.function) (WpFn-mono 𝓤 H 𝓛.laws 𝓣 code.function)
      (walked 𝓛 F.ended stayed clauses (WpFn 𝓤 H 𝓣.C 𝓣.Λ code.function) (λ κs. (shr_slice_vals, tt)) (λ κs. (shr_slice_Tells (named 0) κs.0 u8, tt))
      (λ κs qs bounds a g are. via 𝓤 _ (fst∗ 𝓤 _ (emp 𝓤)) (walk κs.0 qs.0 a.0.ref_ptr.0 a.0.ref_ptr.1 a.0.now 𝓣.C 𝓣.Λ are.0.0.1.0)))

pub of_spec : {M : Type 1} → stated.statement M
unfolding tables_of
of_spec 𝓤 𝓛 𝓜 𝓡 wired =
    let 𝓣 : Tables 𝓤 𝓛.H = tables_of 𝓤 𝓛.H 𝓜 (tables 𝓤 𝓛.H 𝓜 𝓡 𝓡.env) in
    entered 𝓤 𝓛.H (triple_of 𝓛 F.signature (F.spec 𝓛 𝓜.mem 𝓡.returns)) 𝓣.C 𝓣.Λ #self code.function (code.unfolded 𝓤 𝓛.H 𝓜 𝓡 wired) (meets 𝓛 𝓜.mem 𝓡.returns 𝓣)
