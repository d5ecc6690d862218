-- The uses of a credit that stand, after a step of its sending end.
use Rattle.std.proofs.Common.{◌≡◌, ℕ, suc, ◌+◌, ◌-◌, List, [], ◌∷◌, ◌++◌, length, take, Option, Some, None, refl, ap, ◌∙◌, arith, length-append}
use Rattle.std.specs.Prelude.{filter}
use Rattle.std.specs.List.{fold}
use Rattle.std.proofs.lemmas.List.Elements.{filter_map-append}
use Rattle.std.proofs.lemmas.List.Sums.{fold-append}
use Rattle.lc_history.specs.History.{Knows}
use Rattle.lc_frame.specs.declared.frame.Frame.{Frame}
use Rattle.lc_credit.specs.declared.history.Entry.{Entry}
use Rattle.lc_credit.specs.declared.history.Entry.TheVariants.{Received, Used, Returned, Asked, Taken}
use Rattle.lc_credit.specs.declared.credit_out.Use.{Use}
use Rattle.lc_credit.specs.declared.credit_out.Use.TheVariants.{Spend, Absolve}
use Rattle.lc_credit.specs.History.{is_outgoing, Learns, Makes}
use Rattle.lc_credit.specs.Sides.{Outgoing, IsUsed, IsWaived}
use Rattle.lc_outbox.specs.Uses.{uses_after, uses, amount_of, amounts}
use Rattle.lc_outbox.specs.Calls.{IsCounted, IsGivenBack}
use Rattle.lc_outbox.specs.Honours.{LooksForTarget}

uses-push : (history : List Entry) (e : Entry) → uses (history ++ e ∷ []) ≡ uses_after (uses history) e
uses-push history e = fold-append uses_after [] history (e ∷ [])

pub amounts-push : (frames : List Frame) (f : Frame) → amounts (frames ++ f ∷ []) ≡ amounts frames ++ amounts (f ∷ [])
amounts-push frames f = filter_map-append amount_of frames (f ∷ [])

-- the other side's entries are no uses
uses_others : (before : List ℕ) (later : List Entry) → filter is_outgoing later ≡ [] → fold uses_after before later ≡ before
uses_others before [] none = refl
uses_others before (Received n ∷ later) none = uses_others before later none
uses_others before (Used n ∷ later) none = absurd (cc)
uses_others before (Returned n ∷ later) none = absurd (cc)
uses_others before (Asked target ∷ later) none = uses_others before later none
uses_others before (Taken target ∷ later) none = absurd (cc)

pub uses_same : (seen history : List Entry) → Knows is_outgoing seen history → uses history ≡ uses seen
uses_same seen history h = ap uses h.begins ∙ (fold-append uses_after [] seen h.later ∙ uses_others (uses seen) h.later h.others)

pub learned_uses : (old new : List Entry) → Learns is_outgoing old new → uses new ≡ uses old
learned_uses old new h = uses_same old new h.knows

made_uses : (old new : List Entry) (e : Entry) → Makes is_outgoing old e new → uses new ≡ uses_after (uses old) e
made_uses old new e h = ap uses h.last ∙ (uses-push h.before e ∙ ap (λ (xs : List ℕ). uses_after xs e) (uses_same old h.before h.knows))

-- a look for a target is no use
pub looked_uses : (taken : Option ℕ) (old new : Outgoing) → LooksForTarget taken old new → uses new.seen ≡ uses old.seen
looked_uses None old new h = learned_uses old.seen new.seen h.none.0
looked_uses (Some target) old new h = made_uses old.seen new.seen (Taken target) h.some

-- without the last
pub last_gone : (xs : List ℕ) (n : ℕ) → take (length (xs ++ n ∷ []) - 1) (xs ++ n ∷ []) ≡ xs
last_gone [] n = refl
last_gone (x ∷ xs) n = first_stays x (length (xs ++ n ∷ [])) (xs ++ n ∷ []) xs (length-append xs (n ∷ [])) (last_gone xs n)
  where
    first_stays : (x k : ℕ) (ys xs : List ℕ) → k ≡ length xs + 1 → take (k - 1) ys ≡ xs → take (suc k - 1) (x ∷ ys) ≡ x ∷ xs
    first_stays x k ys xs e same = let is : suc k - 1 ≡ suc (k - 1) = omega arith in rw is (ap (λ (zs : List ℕ). x ∷ zs) same)

-- an amount is used, is counted, or comes back
used_uses : (kind : Use) (n : ℕ) (old new : Outgoing) → IsUsed kind n old new → uses new.seen ≡ uses old.seen ++ n ∷ []
used_uses kind n old new h = made_uses h.between.seen new.seen (Used n) h.makes ∙ ap (λ (xs : List ℕ). xs ++ n ∷ []) (learned_uses old.seen h.between.seen h.loads.learns)

pub counted_uses : (kind : Use) (n : ℕ) (old new : Outgoing) → IsCounted kind n old new → uses new.seen ≡ uses old.seen ++ n ∷ []
counted_uses Spend n old new h = ap (λ (o : Outgoing). uses o.seen) h.after ∙ used_uses Spend n old h.pending h.used
counted_uses Absolve n old new h = ap (λ (o : Outgoing). uses o.seen) h.after ∙ used_uses Absolve n old h.pending h.used

pub given_back_uses : (kind : Use) (n : ℕ) (old new : Outgoing) → IsGivenBack kind n old new → uses new.seen ≡ uses old.seen
given_back_uses kind n old new h =
    made_uses h.pending.seen new.seen (Returned n) h.makes ∙ (ap (λ (xs : List ℕ). take (length xs - 1) xs) (used_uses kind n old h.pending h.used) ∙ last_gone (uses old.seen) n)

-- what is waived is used last
pub waived_uses : (old new : Outgoing) (h : IsWaived old new) → uses new.seen ≡ uses old.seen ++ h.held ∷ []
waived_uses old new h = made_uses h.between.seen new.seen (Used h.held) h.makes ∙ ap (λ (xs : List ℕ). xs ++ h.held ∷ []) (learned_uses old.seen h.between.seen h.loads.learns)
