-- The steps at a seat of which it is known whose it is, and what they leave.
use Rattle.std.proofs.Common.{◌≡◌, ℕ, zero, suc, ◌+◌, ◌-◌, ◌≤◌, ◌%◌, ◌^◌, List, [], Some, sym, ◌∙◌, subst, arith}
use mathlib.Core.Option.{none}
use Rattle.atomic_table.specs.Table.{step, Allows, Splits, Joins}
use Rattle.lc_frame.specs.Kind.{max_amount, max_total}
use Rattle.lc_history.specs.History.{Knows}
use Rattle.lc_credit.specs.declared.history.Entry.{Entry}
use Rattle.lc_credit.specs.declared.history.Entry.TheVariants.{Taken}
use Rattle.lc_credit.specs.declared.rule.View.{View}
use Rattle.lc_credit.specs.declared.rule.View.TheVariants.{Reading, Sending, Both, Closed}
use Rattle.lc_credit.specs.History.{received, used, returned, IsHeld, last_use, IsHistory, is_incoming, is_outgoing}
use Rattle.lc_credit.specs.Rule.{KeepsCredit, seen_of, sent_of, looks_of, least_of, reading_of, sending_of, both_of, Seated, IsReading, IsSending, LoadedIn, AddedReceived, StoredAsked, LoadedOut, SubtractedUsed, AddedReturned, TakesOut, SwappedAsked, LoadedLast}
use Rattle.lc_credit.proofs.Histories.{used_same, returned_same, last_use_same, made_used, made_returned, made_last_use}
use Rattle.lc_credit.proofs.Steps.{loads_in, adds_received, loads_out, subtracts_used, adds_returned, stores_asked, swaps_asked, loads_last, splits, joins}

pub may_load_in : (slots id : ℕ) (me : Seated) → IsReading me → Allows KeepsCredit slots id me 0 (λ n. n) (LoadedIn (step slots 0 0 0 none) me)
may_load_in slots id me is = subst (λ (v : View). Allows KeepsCredit slots id (v, me.1) 0 (λ n. n) (LoadedIn (step slots 0 0 0 none) (v, me.1))) (sym is.view) (loads_in slots id (seen_of me.0) (looks_of me.0) me.1)

pub may_add_received : (slots id k : ℕ) (me : Seated) → IsReading me → received (seen_of me.0) + k ≤ max_total → Allows KeepsCredit slots id me 0 (λ n. (n + k) % 2 ^ 64) (AddedReceived (step slots 0 k 0 none) me)
may_add_received slots id k me is small = subst (λ (v : View). Allows KeepsCredit slots id (v, me.1) 0 (λ n. (n + k) % 2 ^ 64) (AddedReceived (step slots 0 k 0 none) (v, me.1))) (sym is.view) (adds_received slots id k (seen_of me.0) (looks_of me.0) me.1 small)

pub may_store_asked : (slots id target : ℕ) (me : Seated) → IsReading me → target ≤ max_amount → Allows KeepsCredit slots id me 1 (λ _. target + 1) (λ _. StoredAsked (step slots 1 (target + 1) 0 none) me (target + 1))
may_store_asked slots id target me is small = subst (λ (v : View). Allows KeepsCredit slots id (v, me.1) 1 (λ _. target + 1) (λ _. StoredAsked (step slots 1 (target + 1) 0 none) (v, me.1) (target + 1))) (sym is.view) (stores_asked slots id target (seen_of me.0) (looks_of me.0) me.1 small)

pub may_load_out : (slots id least : ℕ) (me : Seated) → IsSending least me → Allows KeepsCredit slots id me 0 (λ n. n) (LoadedOut (step slots 0 0 0 none) me)
may_load_out slots id least me is = subst (λ (v : View). Allows KeepsCredit slots id (v, me.1) 0 (λ n. n) (LoadedOut (step slots 0 0 0 none) (v, me.1))) (sym is.view) (loads_out slots id least (seen_of me.0) (looks_of me.0) me.1)

pub may_subtract_used : (slots id least k : ℕ) (me : Seated) → IsSending least me → k ≤ least → Allows KeepsCredit slots id me 0 (λ n. (n + (2 ^ 64 - k)) % 2 ^ 64) (SubtractedUsed (step slots 0 k 0 none) me)
may_subtract_used slots id least k me is le = subst (λ (v : View). Allows KeepsCredit slots id (v, me.1) 0 (λ n. (n + (2 ^ 64 - k)) % 2 ^ 64) (SubtractedUsed (step slots 0 k 0 none) (v, me.1))) (sym is.view) (subtracts_used slots id least k (seen_of me.0) (looks_of me.0) me.1 le)

pub may_add_returned : (slots id least k : ℕ) (me : Seated) → IsSending least me → last_use (seen_of me.0) ≡ Some k → Allows KeepsCredit slots id me 0 (λ n. (n + k) % 2 ^ 64) (AddedReturned (step slots 0 k 0 none) me)
may_add_returned slots id least k me is le = subst (λ (v : View). Allows KeepsCredit slots id (v, me.1) 0 (λ n. (n + k) % 2 ^ 64) (AddedReturned (step slots 0 k 0 none) (v, me.1))) (sym is.view) (adds_returned slots id least k (seen_of me.0) (looks_of me.0) me.1 le)

pub may_swap_asked : (slots id least : ℕ) (me : Seated) → IsSending least me → Allows KeepsCredit slots id me 1 (λ _. 0) (SwappedAsked (step slots 1 0 0 none) me)
may_swap_asked slots id least me is = subst (λ (v : View). Allows KeepsCredit slots id (v, me.1) 1 (λ _. 0) (SwappedAsked (step slots 1 0 0 none) (v, me.1))) (sym is.view) (swaps_asked slots id least (seen_of me.0) (looks_of me.0) me.1)

pub may_load_last : (slots id : ℕ) (x : List Entry) (l : ℕ) (y : List Entry) (me : Seated) → me ≡ (Both x l y, []) → Allows KeepsCredit slots id me 0 (λ n. n) (LoadedLast (step slots 0 0 0 none) me)
may_load_last slots id x l y me is = subst (λ (m : Seated). Allows KeepsCredit slots id m 0 (λ n. n) (LoadedLast (step slots 0 0 0 none) m)) (sym is) (loads_last slots id x l y [])

pub may_split : (id : ℕ) (x : List Entry) (l : ℕ) (y : List Entry) (v : View) → v ≡ Both x l y → Splits KeepsCredit id v (reading_of v) (sending_of v)
may_split id x l y v is = subst (λ (u : View). Splits KeepsCredit id u (reading_of u) (sending_of u)) (sym is) (splits id x l y)

pub may_join : (id other least : ℕ) (x : List Entry) (l : ℕ) (y : List Entry) (m : ℕ) (v w : View) → v ≡ Reading x l → w ≡ Sending y m least → Joins KeepsCredit id v other w (both_of v w) Closed
may_join id other least x l y m v w is is' = subst (λ (u : View × View). Joins KeepsCredit id u.0 other u.1 (both_of u.0 u.1) Closed) (λ i. (sym is i, sym is' i)) (joins id x l other y m least)

-- both sides have come together
pub together : (least : ℕ) (me other new : Seated) → new ≡ (both_of me.0 other.0, me.1) → IsReading me → IsSending least other → new ≡ (Both (seen_of me.0) (looks_of me.0) (seen_of other.0), [])
together least me other new is one two = is ∙ (λ i. (Both (seen_of me.0) (looks_of me.0) (sent_of (two.view i)), one.slots i))

-- what the last load tells of a seat of both sides
pub record Last (found : ℕ) (x y : List Entry) : Type 0 where
  pub history : List Entry
  pub legal : IsHistory history
  pub held : IsHeld found history
  pub seen : Knows is_incoming x history
  pub sent : Knows is_outgoing y history

pub last_of : (slots found : ℕ) (x : List Entry) (l : ℕ) (y : List Entry) (me new : Seated) → me ≡ (Both x l y, []) → LoadedLast (step slots 0 0 0 none) me found new → Last found x y
last_of slots found x l y me new is h =
    record {
      history = h.history;
      legal = h.legal;
      held = h.held;
      seen = subst (λ (m : Seated). Knows is_incoming (seen_of m.0) h.history) is h.seen;
      sent = subst (λ (m : Seated). Knows is_outgoing (sent_of m.0) h.history) is h.sent;
    }

-- the numbers that a view has are those that it is asked for
pub reading_is : (looks : ℕ) (v : View) → v ≡ Reading (seen_of v) looks → v ≡ Reading (seen_of v) (looks_of v)
reading_is looks v is = is ∙ (λ i. Reading (seen_of v) (looks_of (sym is i)))

pub sending_is : (looks least : ℕ) (v : View) → v ≡ Sending (seen_of v) looks least → v ≡ Sending (seen_of v) (looks_of v) (least_of v)
sending_is looks least v is = is ∙ (λ i. Sending (seen_of v) (looks_of (sym is i)) (least_of (sym is i)))

-- taking a target changes no sum
pub used_as_before : (found : ℕ) (x y : List Entry) → TakesOut found x y → used y ≡ used x
used_as_before zero x y h = used_same x y h.0.knows
used_as_before (suc target) x y h = let sum : used y ≡ used x + 0 = made_used x y (Taken target) h in omega arith

pub returned_as_before : (found : ℕ) (x y : List Entry) → TakesOut found x y → returned y ≡ returned x
returned_as_before zero x y h = returned_same x y h.0.knows
returned_as_before (suc target) x y h = let sum : returned y ≡ returned x + 0 = made_returned x y (Taken target) h in omega arith

pub last_use_as_before : (found : ℕ) (x y : List Entry) → TakesOut found x y → last_use y ≡ last_use x
last_use_as_before zero x y h = last_use_same x y h.0.knows
last_use_as_before (suc target) x y h = made_last_use x y (Taken target) h
