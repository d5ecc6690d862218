-- An issue or a limit that may be put is not dropped.
use Rattle.std.proofs.Common.{◌≡◌, ℕ, ◌≤◌, inl, inr, true, false, Option, Some, None, refl, sym, subst, arith}
use Rattle.std.specs.Prelude.{Bool, ◌-◌, nat_lt, ◌==◌, ◌&&◌, not, min, if◌then◌else◌}
use Rattle.std.specs.Option.{option_or}
use Rattle.std.proofs.lemmas.Bool.Decides.{nat_tests}
use Rattle.lc_frame.specs.declared.channel.Channel.{Channel}
use Rattle.lc_book.specs.declared.fault.Refusal.{Refusal}
use Rattle.lc_book.specs.declared.fault.Refusal.TheVariants.{QueueFull}
use Rattle.lc_book.specs.Limit.{is_past, less}
use Rattle.lc_book.specs.Server.{issue_refusal, limit_receiving_refusal}
use Rattle.lc_peer.specs.Peer.{server}
use Rattle.lc_lines.specs.declared.scheduler.Control.TheVariants as control
use Rattle.lc_lines.specs.Outbound.{has_control_slot}
use Rattle.lc_lines.specs.Scheduler.{SchedulerState}
use Rattle.lc_owed.specs.declared.pending.Pending.{Pending}
use Rattle.lc_owed.specs.declared.due.Due.{Due}
use Rattle.lc_owed.specs.declared.due.Due.TheVariants.{Put, Honour}
use Rattle.lc_owed.specs.Owed.{pending_on}
use Rattle.lc_owed.specs.Due.{spare, is_held_up, issue_due, limit_due, plead_due, absolve_due, honour_due, due_on}
use Rattle.lc_owed.specs.Flush.{wants_slot}
use Rattle.lc_owed.specs.Standing.{MayBePut, OnlyFinishedChannelsDrop}
use Rattle.lc_owed.proofs.First.{unless, provided, mapped, either, no_number, due_is_on}
use Rattle.lc_owed.proofs.Standing.{limit_left, limit_is_accepted}

-- an issue that is due is the pending one
record IsIssue (c : Channel) (p : Pending) (x : Channel) (n : ℕ) : Type 0 where
  pub channel : c ≡ x
  pub amount : p.issue ≡ n
  pub some : 1 ≤ p.issue

-- a limit that is due is the pending one, and no issue is pending
record IsLimit (c : Channel) (p : Pending) (x : Channel) (n : ℕ) : Type 0 where
  pub channel : c ≡ x
  pub limit : p.limit ≡ Some n
  pub first : p.issue ≡ 0

some_issue : (n : ℕ) → (n == 0) ≡ false → 1 ≤ n
some_issue n e = grind (arith, nat_tests)

-- neither a plead nor what is due behind it
no_other : (s : SchedulerState) (c : Channel) (p : Pending) (d : Due) → ((n : ℕ) → Put (control.Plead c n) ≡ d → ⊥) → ((n : ℕ) → Put (control.Absolve c n) ≡ d → ⊥) → (Honour c ≡ d → ⊥) → option_or (plead_due c p) (option_or (absolve_due s c p) (honour_due s c p)) ≡ Some d → ⊥
no_other s c p d plead absolve honour e = elim (either (plead_due c p) (option_or (absolve_due s c p) (honour_due s c p)) d e) [
  | inl e1 ↦ let is = mapped (λ (n : ℕ). Put (control.Plead c n)) p.plead d e1 in plead is.0 is.1.1
  | inr e1 ↦ elim (either (absolve_due s c p) (honour_due s c p) d e1.1) [
    | inl e2 ↦ absolve (min p.absolve (spare s c)) (unless (p.absolve == 0) (Put (control.Absolve c (min p.absolve (spare s c)))) d e2).1
    | inr e2 ↦ honour (provided (p.honour && not (is_held_up s c)) (Honour c) d e2.1).1
  ]
]

issue_is : (s : SchedulerState) (c : Channel) (p : Pending) (x : Channel) (n : ℕ) → due_on s c p ≡ Some (Put (control.Issue x n)) → IsIssue c p x n
issue_is s c p x n e =
    let d : Due = Put (control.Issue x n) in
    let later = option_or (plead_due c p) (option_or (absolve_due s c p) (honour_due s c p)) in
    elim (either (issue_due c p) (option_or (limit_due c p) later) d e) [
      | inl e1 ↦ let is = unless (p.issue == 0) (Put (control.Issue c p.issue)) d e1 in let same = is.1 in record { channel = cc; amount = cc; some = some_issue p.issue is.0 }
      | inr e1 ↦ elim (either (limit_due c p) later d e1.1) [
        | inl e2 ↦ let is = mapped (λ (bound : ℕ). Put (control.LimitReceiving c bound)) p.limit d e2 in let same = is.1.1 in absurd cc
        | inr e2 ↦ absurd (no_other s c p d (λ k h. cc) (λ k h. cc) (λ h. cc) e2.1)
      ]
    ]

limit_is : (s : SchedulerState) (c : Channel) (p : Pending) (x : Channel) (n : ℕ) → due_on s c p ≡ Some (Put (control.LimitReceiving x n)) → IsLimit c p x n
limit_is s c p x n e =
    let d : Due = Put (control.LimitReceiving x n) in
    let later = option_or (plead_due c p) (option_or (absolve_due s c p) (honour_due s c p)) in
    elim (either (issue_due c p) (option_or (limit_due c p) later) d e) [
      | inl e1 ↦ let is = unless (p.issue == 0) (Put (control.Issue c p.issue)) d e1 in let same = is.1 in absurd cc
      | inr e1 ↦ elim (either (limit_due c p) later d e1.1) [
        | inl e2 ↦ let is = mapped (λ (bound : ℕ). Put (control.LimitReceiving c bound)) p.limit d e2 in let same = is.1.1 in let old = is.1.0 in record { channel = cc; limit = cc; first = no_number p.issue (Put (control.Issue c p.issue)) e1.0 }
        | inr e2 ↦ absurd (no_other s c p d (λ k h. cc) (λ k h. cc) (λ h. cc) e2.1)
      ]
    ]

-- where neither the book nor permits refuse it, want of a slot does
slot_alone : (book permits : Option Refusal) (slot : Bool) (r : Refusal) → book ≡ None → permits ≡ None → option_or book (option_or permits (if slot then None else Some QueueFull)) ≡ Some r → wants_slot r ≡ false → ⊥
slot_alone (Some x) permits slot r eb ep e w = cc
slot_alone None (Some x) slot r eb ep e w = cc
slot_alone None None true r eb ep e w = cc
slot_alone None None false r eb ep e w =
    let same : QueueFull ≡ r = cc in
    let wants : wants_slot QueueFull ≡ false = subst (λ (x : Refusal). wants_slot x ≡ false) (sym same) w in
    cc

true_unless : (b : Bool) → (b ≡ false → ⊥) → b ≡ true
true_unless true never = refl
true_unless false never = absurd (never refl)

whole_limit : (left : Option ℕ) (k n : ℕ) → k ≡ 0 → is_past (less left k) n ≡ false → is_past left n ≡ false
whole_limit None k n z e = refl
whole_limit (Some x) k n z e = let same : x - k ≡ x = omega arith in subst (λ (y : ℕ). nat_lt y n ≡ false) same e

pub only_finished_channels_drop : OnlyFinishedChannelsDrop
only_finished_channels_drop o l l' (Put (control.Issue x n)) e kind stands dropped =
    let s = l.scheduler in
    let b = server s.peer x in
    let on = due_is_on o s (Put (control.Issue x n)) e in
    let is = issue_is s on.0 (pending_on o on.0) x n on.1 in
    true_unless b.finished (λ unfinished.
    let may : MayBePut b (pending_on o on.0) = subst (λ (c : Channel). MayBePut b (pending_on o c)) (sym is.channel) (stands unfinished) in
    let book : issue_refusal b n ≡ None = subst (λ (k : ℕ). issue_refusal b k ≡ None) is.amount (may.issue is.some) in
    slot_alone (issue_refusal b n) None (has_control_slot s.peer s.asides) dropped.refusal book refl dropped.refused dropped.by_book)
only_finished_channels_drop o l l' (Put (control.LimitReceiving x n)) e kind stands dropped =
    let s = l.scheduler in
    let b = server s.peer x in
    let on = due_is_on o s (Put (control.LimitReceiving x n)) e in
    let p = pending_on o on.0 in
    let is = limit_is s on.0 p x n on.1 in
    true_unless b.finished (λ unfinished.
    let may : MayBePut b p = subst (λ (c : Channel). MayBePut b (pending_on o c)) (sym is.channel) (stands unfinished) in
    let can = limit_left b p may n is.limit in
    let book : limit_receiving_refusal b n ≡ None = limit_is_accepted b n (record { unfinished = unfinished; small = can.small; left = whole_limit b.receive_left p.issue n is.first can.left }) in
    slot_alone (limit_receiving_refusal b n) None (has_control_slot s.peer s.asides) dropped.refusal book refl dropped.refused dropped.by_book)
only_finished_channels_drop o l l' (Put (control.Absolve x n)) e kind stands dropped = cc
only_finished_channels_drop o l l' (Put (control.Plead x n)) e kind stands dropped = cc
only_finished_channels_drop o l l' (Honour x) e kind stands dropped = cc
