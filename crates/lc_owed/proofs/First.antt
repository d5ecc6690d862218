-- What is due was pending, and where nothing is due nothing is pending that permits don't hold up.
use Rattle.std.proofs.Common.{◌≡◌, ◌⊎◌, ℕ, ◌+◌, ◌<◌, inl, inr, true, false, List, [], ◌∷◌, ◌++◌, length, take, drop, get_or, set, Option, Some, None, refl, sym, ap, ◌∙◌, subst, arith}
use Rattle.std.specs.Prelude.{Bool, ◌==◌, ◌&&◌, not, min, if◌then◌else◌, sum_by}
use Rattle.std.specs.Option.{option_or, option_map}
use Rattle.std.proofs.lemmas.Bool.Decides.{nat_tests}
use Rattle.std.proofs.lemmas.List.{take-append-drop}
use Rattle.std.proofs.lemmas.List.Sums.{sum_by-set}
use Rattle.lc_frame.specs.declared.channel.Channel.{Channel}
use Rattle.lc_frame.specs.declared.channel.Channel.TheVariants.{Reconciliation, Data, Overlap, Capability, AreaOfInterest, PayloadRequest, StaticToken}
use Rattle.lc_frame.specs.Channel.{channel_count, number_of}
use Rattle.lc_frame.proofs.Channels.{number_below}
use Rattle.lc_lines.specs.declared.scheduler.Control.TheVariants as control
use Rattle.lc_lines.specs.Outbound.{every_channel}
use Rattle.lc_lines.specs.Scheduler.{SchedulerState}
use Rattle.lc_owed.specs.declared.pending.Pending.{Pending}
use Rattle.lc_owed.specs.declared.due.Due.{Due}
use Rattle.lc_owed.specs.declared.due.Due.TheVariants.{Put, Honour}
use Rattle.lc_owed.specs.Pending.{nothing_pending}
use Rattle.lc_owed.specs.Owed.{OwedState, pending_on}
use Rattle.lc_owed.specs.Due.{spare, is_held_up, issue_due, limit_due, plead_due, absolve_due, honour_due, due_on, due_among, due, channel_of_due, without, without_due}
use Rattle.lc_owed.specs.Flush.{IsPaid, AllPaid}

-- 1 for something that is pending, else 0
abbrev pub one_if : Bool → ℕ
one_if true = 1
one_if false = 0

abbrev pub one_of : Option ℕ → ℕ
one_of None = 0
one_of (Some n) = 1

-- how much is pending on a channel, and on all; a measure alone
abbrev pub items : Pending → ℕ
items p = p.issue + one_of p.limit + one_of p.plead + p.absolve + one_if p.honour

abbrev pub weight : List Pending → ℕ
weight ps = sum_by items ps

-- what was due was pending on its channel, and less is without it
record Fewer (c : Channel) (p : Pending) (d : Due) : Type 0 where
  pub channel : channel_of_due d ≡ c
  pub fewer : items (without p d) < items p

pub unless : (b : Bool) (x d : Due) → (if b then None else Some x) ≡ Some d → (b ≡ false) × (x ≡ d)
unless true x d e = absurd cc
unless false x d e = (refl, cc)

pub provided : (b : Bool) (x d : Due) → (if b then Some x else None) ≡ Some d → (b ≡ true) × (x ≡ d)
provided true x d e = (refl, cc)
provided false x d e = absurd cc

pub mapped : (f : ℕ → Due) (o : Option ℕ) (d : Due) → option_map f o ≡ Some d → (n : ℕ) × ((o ≡ Some n) × (f n ≡ d))
mapped f None d e = absurd cc
mapped f (Some n) d e = (n, (refl, cc))

some_number : (n : ℕ) → (n == 0) ≡ false → 0 < n
some_number n e = grind (arith, nat_tests)

both_true : (a b : Bool) → (a && b) ≡ true → a ≡ true
both_true true b e = refl
both_true false b e = cc

issue_fewer : (c : Channel) (p : Pending) (d : Due) → issue_due c p ≡ Some d → Fewer c p d
issue_fewer c p d e =
    let is = unless (p.issue == 0) (Put (control.Issue c p.issue)) d e in
    let some : 0 < p.issue = some_number p.issue is.0 in
    subst (λ (x : Due). Fewer c p x) is.1 (record { channel = refl; fewer = omega arith })

limit_fewer : (c : Channel) (p : Pending) (d : Due) → limit_due c p ≡ Some d → Fewer c p d
limit_fewer c p d e =
    let is = mapped (λ (bound : ℕ). Put (control.LimitReceiving c bound)) p.limit d e in
    let one : one_of p.limit ≡ 1 = ap one_of is.1.0 in
    subst (λ (x : Due). Fewer c p x) is.1.1 (record { channel = refl; fewer = omega (arith, one) })

plead_fewer : (c : Channel) (p : Pending) (d : Due) → plead_due c p ≡ Some d → Fewer c p d
plead_fewer c p d e =
    let is = mapped (λ (target : ℕ). Put (control.Plead c target)) p.plead d e in
    let one : one_of p.plead ≡ 1 = ap one_of is.1.0 in
    subst (λ (x : Due). Fewer c p x) is.1.1 (record { channel = refl; fewer = omega (arith, one) })

absolve_fewer : (s : SchedulerState) (c : Channel) (p : Pending) (d : Due) → absolve_due s c p ≡ Some d → Fewer c p d
absolve_fewer s c p d e =
    let is = unless (p.absolve == 0) (Put (control.Absolve c (min p.absolve (spare s c)))) d e in
    let some : 0 < p.absolve = some_number p.absolve is.0 in
    subst (λ (x : Due). Fewer c p x) is.1 (record { channel = refl; fewer = omega arith })

honour_fewer : (s : SchedulerState) (c : Channel) (p : Pending) (d : Due) → honour_due s c p ≡ Some d → Fewer c p d
honour_fewer s c p d e =
    let is = provided (p.honour && not (is_held_up s c)) (Honour c) d e in
    let one : one_if p.honour ≡ 1 = ap one_if (both_true p.honour (not (is_held_up s c)) is.0) in
    subst (λ (x : Due). Fewer c p x) is.1 (record { channel = refl; fewer = omega (arith, one) })

pub either : (a b : Option Due) (d : Due) → option_or a b ≡ Some d → (a ≡ Some d) ⊎ ((a ≡ None) × (b ≡ Some d))
either None b d e = inr (refl, e)
either (Some x) b d e = inl e

on_fewer : (s : SchedulerState) (c : Channel) (p : Pending) (d : Due) → due_on s c p ≡ Some d → Fewer c p d
on_fewer s c p d e =
    let last = option_or (absolve_due s c p) (honour_due s c p) in
    let later = option_or (plead_due c p) last in
    elim (either (issue_due c p) (option_or (limit_due c p) later) d e) [
      | inl issue ↦ issue_fewer c p d issue
      | inr e1 ↦ elim (either (limit_due c p) later d e1.1) [
        | inl limit ↦ limit_fewer c p d limit
        | inr e2 ↦ elim (either (plead_due c p) last d e2.1) [
          | inl plead ↦ plead_fewer c p d plead
          | inr e3 ↦ elim (either (absolve_due s c p) (honour_due s c p) d e3.1) [
            | inl absolve ↦ absolve_fewer s c p d absolve
            | inr honour ↦ honour_fewer s c p d honour.1
          ]
        ]
      ]
    ]

among_is_on : (o : OwedState) (s : SchedulerState) (channels : List Channel) (d : Due) → due_among o s channels ≡ Some d → (c : Channel) × (due_on s c (pending_on o c) ≡ Some d)
among_is_on o s [] d e = absurd cc
among_is_on o s (c ∷ channels) d e = elim (either (due_on s c (pending_on o c)) (due_among o s channels) d e) [
  | inl here ↦ (c, here)
  | inr later ↦ among_is_on o s channels d later.1
]

-- what is due first of all is due first on a channel
pub due_is_on : (o : OwedState) (s : SchedulerState) (d : Due) → due o s ≡ Some d → (c : Channel) × (due_on s c (pending_on o c) ≡ Some d)
due_is_on o s d e = elim (either (due_among o s (drop (number_of o.first) every_channel)) (due_among o s (take (number_of o.first) every_channel)) d e) [
  | inl from ↦ among_is_on o s (drop (number_of o.first) every_channel) d from
  | inr before ↦ among_is_on o s (take (number_of o.first) every_channel) d before.1
]

less_pending : (o : OwedState) (c : Channel) (d : Due) → length o.pending ≡ channel_count → Fewer c (pending_on o c) d → weight (without_due o d).pending < weight o.pending
less_pending o c d places is =
    let lt : number_of c < length o.pending = omega (arith, number_below c) in
    let sums = sum_by-set items o.pending (number_of c) (without (pending_on o c) d) nothing_pending lt in
    let fewer : items (without (pending_on o c) d) < items (get_or o.pending (number_of c) nothing_pending) = is.fewer in
    let here : sum_by items (set o.pending (number_of c) (without (pending_on o c) d)) < sum_by items o.pending = omega (arith, sums, fewer) in
    subst (λ (x : Channel). sum_by items (set o.pending (number_of x) (without (pending_on o x) d)) < sum_by items o.pending) (sym is.channel) here

-- less is pending once what is due first went
pub due_is_less : (o : OwedState) (s : SchedulerState) (d : Due) → length o.pending ≡ channel_count → due o s ≡ Some d → weight (without_due o d).pending < weight o.pending
due_is_less o s d places e = let on = due_is_on o s d e in less_pending o on.0 d places (on_fewer s on.0 (pending_on o on.0) d on.1)

neither : (a b : Option Due) → option_or a b ≡ None → (a ≡ None) × (b ≡ None)
neither None b e = (refl, e)
neither (Some x) b e = absurd cc

only_if : (b : Bool) (x : Due) → (if b then None else Some x) ≡ None → b ≡ true
only_if true x e = refl
only_if false x e = cc

pub no_number : (n : ℕ) (x : Due) → (if n == 0 then None else Some x) ≡ None → n ≡ 0
no_number n x e = let is = only_if (n == 0) x e in grind (arith, nat_tests)

no_some : (f : ℕ → Due) (o : Option ℕ) → option_map f o ≡ None → o ≡ None
no_some f None e = refl
no_some f (Some n) e = absurd cc

no_honour : (h u : Bool) (x : Due) → (if h && not u then Some x else None) ≡ None → h ≡ true → u ≡ true
no_honour true true x e t = refl
no_honour true false x e t = absurd cc
no_honour false u x e t = absurd cc

paid : (s : SchedulerState) (c : Channel) (p : Pending) → due_on s c p ≡ None → IsPaid p s c
paid s c p e =
    let last = option_or (absolve_due s c p) (honour_due s c p) in
    let later = option_or (plead_due c p) last in
    let one = neither (issue_due c p) (option_or (limit_due c p) later) e in
    let two = neither (limit_due c p) later one.1 in
    let three = neither (plead_due c p) last two.1 in
    let four = neither (absolve_due s c p) (honour_due s c p) three.1 in
    record {
      issue = no_number p.issue (Put (control.Issue c p.issue)) one.0;
      limit = no_some (λ (bound : ℕ). Put (control.LimitReceiving c bound)) p.limit two.0;
      plead = no_some (λ (target : ℕ). Put (control.Plead c target)) p.plead three.0;
      absolve = no_number p.absolve (Put (control.Absolve c (min p.absolve (spare s c)))) four.0;
      honour = no_honour p.honour (is_held_up s c) (Honour c) four.1;
    }

-- a list of channels with none of which anything is due
record NoneDue (o : OwedState) (s : SchedulerState) (c : Channel) (channels : List Channel) : Type 0 where
  pub here : due_on s c (pending_on o c) ≡ None
  pub later : due_among o s channels ≡ None

none_due : (o : OwedState) (s : SchedulerState) (c : Channel) (channels : List Channel) → due_among o s (c ∷ channels) ≡ None → NoneDue o s c channels
none_due o s c channels e =
    let is = neither (due_on s c (pending_on o c)) (due_among o s channels) e in
    record { here = is.0; later = is.1 }

every_none : (o : OwedState) (s : SchedulerState) → due_among o s every_channel ≡ None → (c : Channel) → due_on s c (pending_on o c) ≡ None
every_none o s e c =
    let one = none_due o s Reconciliation (drop 1 every_channel) e in
    let two = none_due o s Data (drop 2 every_channel) one.later in
    let three = none_due o s Overlap (drop 3 every_channel) two.later in
    let four = none_due o s Capability (drop 4 every_channel) three.later in
    let five = none_due o s AreaOfInterest (drop 5 every_channel) four.later in
    let six = none_due o s PayloadRequest (drop 6 every_channel) five.later in
    let seven = none_due o s StaticToken [] six.later in
    elim c as (λ x. due_on s x (pending_on o x) ≡ None) [
      | Reconciliation ↦ one.here
      | Data ↦ two.here
      | Overlap ↦ three.here
      | Capability ↦ four.here
      | AreaOfInterest ↦ five.here
      | PayloadRequest ↦ six.here
      | StaticToken ↦ seven.here
    ]

none_of_both : (o : OwedState) (s : SchedulerState) (xs ys : List Channel) → due_among o s xs ≡ None → due_among o s ys ≡ None → due_among o s (xs ++ ys) ≡ None
none_of_both o s [] ys ex ey = ey
none_of_both o s (c ∷ xs) ys ex ey =
    let is = none_due o s c xs ex in
    let here : due_on s c (pending_on o c) ≡ None = is.here in
    ap (λ (x : Option Due). option_or x (due_among o s (xs ++ ys))) here ∙ none_of_both o s xs ys is.later ey

-- where nothing is due, nothing is pending that permits don't hold up
pub all_paid : (o : OwedState) (s : SchedulerState) → due o s ≡ None → AllPaid o s
all_paid o s e c =
    let n = number_of o.first in
    let is = neither (due_among o s (drop n every_channel)) (due_among o s (take n every_channel)) e in
    let all : due_among o s every_channel ≡ None = subst (λ (xs : List Channel). due_among o s xs ≡ None) (take-append-drop n every_channel) (none_of_both o s (take n every_channel) (drop n every_channel) is.1 is.0) in
    paid s c (pending_on o c) (every_none o s all c)
