-- What an honour has done, from what the calls in it did.
use Rattle.std.proofs.Common.{◌≡◌, ℕ, [], ◌∷◌, ◌++◌, Option, Some, None, sym, subst}
use Rattle.std.specs.Prelude.{IfSome, MatchOption}
use Rattle.lc_frame.specs.declared.frame.Frame.TheVariants.{Absolve}
use Rattle.lc_book.specs.declared.fault.Refusal.{Refusal}
use Rattle.lc_book.specs.declared.fault.Refusal.TheVariants.{QueueFull, ChannelFinished}
use Rattle.lc_queue.specs.Parts.{End}
use Rattle.lc_credit.specs.declared.history.Entry.TheVariants.{Returned}
use Rattle.lc_credit.specs.History.{is_outgoing, Makes}
use Rattle.lc_credit.specs.Sides.{Outgoing, IsUnfinished, counted, given_back}
use Rattle.lc_outbox.specs.Outbox.{OutboxState}
use Rattle.lc_outbox.specs.Calls.{IsRefused}
use Rattle.lc_outbox.specs.Honours.{AnswersFor, IsMet, IsLowered, HasNothingToAbsolve, IsHonouredBy, IsPutOff}
use Rattle.lc_outbox.proofs.Kept.{used_counts, used_returns, used_given_back}

module _ (old o : OutboxState) (view : o ≡ old) (asked : Option ℕ) (looked : Outgoing) (answers : AnswersFor asked o.asked o.credit looked) where
  -- no plead waits
  pub unasked : asked ≡ None → HasNothingToAbsolve old (record o { credit = looked; asked = asked })
  unasked none =
      subst (λ (s : OutboxState). HasNothingToAbsolve s (record o { credit = looked; asked = asked })) view
      (record {
        target = None;
        looked = looked;
        answers = subst (λ (t : Option ℕ). AnswersFor t o.asked o.credit looked) none answers;
        met = λ i. looked;
        after = λ i. record o { credit = looked; asked = none i };
      })

  module _ (target : ℕ) (is : asked ≡ Some target) where
    answers_for : AnswersFor (Some target) o.asked o.credit looked
    answers_for = subst (λ (t : Option ℕ). AnswersFor t o.asked o.credit looked) is answers

    -- no more is held than that
    pub met : (new : Outgoing) → IsMet (Some target) looked new → HasNothingToAbsolve old (record o { credit = new; asked = None })
    met new meets =
        subst (λ (s : OutboxState). HasNothingToAbsolve s (record o { credit = new; asked = None })) view
        (record { target = Some target; looked = looked; answers = answers_for; met = meets; after = λ i. record o { credit = new; asked = None } })

    module _ (n : ℕ) (pending new : Outgoing) (lane : End) (lowered : IsLowered target n looked pending) where
      -- the rest was absolved
      pub honoured : lane ≡ record o.lane { put = o.lane.put ++ Absolve o.channel n ∷ [] } → IfSome pending.pending (λ p. new ≡ counted p pending) → IsHonouredBy n old (record o { lane = lane; credit = new; asked = None })
      honoured put counts =
          subst (λ (s : OutboxState). IsHonouredBy n s (record o { lane = lane; credit = new; asked = None })) view
          (record {
            target = target;
            looked = looked;
            pending = pending;
            answers = answers_for;
            lowered = lowered;
            after = λ i. record o { lane = put i; credit = used_counts _ _ _ _ new lowered.used counts i; asked = None };
          })

      -- no slot was free
      pub put_off : (e : Refusal) → IsUnfinished o.credit → e ≡ QueueFull → lane ≡ o.lane → IfSome pending.pending (λ p. Makes is_outgoing pending.seen (Returned p.amount) new.seen) → IfSome pending.pending (λ p. new ≡ given_back p new.seen pending)
          → IsRefused e old (record o { lane = lane; credit = new; asked = asked }) (IsPutOff e old (record o { lane = lane; credit = new; asked = asked }))
      put_off e unfinished full unput makes gives =
          let now : OutboxState = record o { lane = lane; credit = new; asked = asked } in
          subst (λ (s : OutboxState). IsRefused e s now (IsPutOff e s now)) view
          (subst (λ (w : Option ℕ). MatchOption w (IsPutOff e o now) (λ _. (e ≡ ChannelFinished) × (now ≡ o))) (sym unfinished) (record {
            full = full;
            target = target;
            amount = n;
            looked = looked;
            pending = pending;
            answers = answers_for;
            lowered = lowered;
            makes = used_returns _ _ _ _ new lowered.used makes;
            after = λ i. record o { lane = unput i; credit = used_given_back _ _ _ _ new lowered.used gives i; asked = is i };
          }))
