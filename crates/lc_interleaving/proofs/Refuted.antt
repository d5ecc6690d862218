-- Why the premise has both of its parts: of two finished sessions an order in which a message stands before what pays it was heard, and one in which a message is heard before it was put, are no histories of two peers, though all else of the premise holds.
use Rattle.std.proofs.Common.{◌≡◌, List, [], ◌∷◌, refl, inl, inr}
use Rattle.atomic_table.specs.Seated.{TableId}
use Rattle.lc_history.specs.History.{IsHistory}
use Rattle.lc_frame.specs.declared.channel.Channel.{Channel}
use Rattle.lc_frame.specs.declared.channel.Channel.TheVariants.{Data}
use Rattle.lc_frame.specs.declared.frame.Frame.TheVariants.{Send, Issue, Absolve, Plead, LimitSending, LimitReceiving, Finish}
use Rattle.lc_inbox.specs.Sides.{InboxSide}
use Rattle.lc_world.specs.State.{Versions, opening}
use Rattle.lc_world.specs.Histories.{IsLegal}
use Rattle.lc_interleaving.specs.Steps.{Step, put, heard, entries, without_refusals}
use Rattle.lc_interleaving.specs.Steps.Step.{puts, hears, takes}
use Rattle.lc_interleaving.specs.Interleaving.{Trace, Joint, of_a, of_b, IsInTime, IsCausal}
use Rattle.lc_interleaving.specs.Interleaving.Joint.{at_a, at_b}
use Rattle.lc_interleaving.specs.History.{history_of}
use Rattle.lc_interleaving.specs.State.{versions_of}
use Rattle.lc_interleaving.specs.Finished.{trace}
use Rattle.lc_interleaving.proofs.Examples.{each, message, a, b, a_finished, b_finished, a_report, b_report, a_settled, b_inbox, unused, unused_inbox, enough}

-- the order of the example, but the message stands before the guarantees were heard
abbrev too_early : List Joint
too_early =
    at_b (puts (LimitReceiving Data 9)) ∷ at_b (puts (Issue Data 5)) ∷ at_a (hears (LimitReceiving Data 9)) ∷ at_a (puts (LimitSending Data 10)) ∷ at_a (puts (Send Data message)) ∷ at_a (hears (Issue Data 5))
    ∷ at_b (puts (Plead Data 1)) ∷ at_a (hears (Plead Data 1)) ∷ at_a (puts (Absolve Data 1)) ∷ at_a (puts (Finish Data)) ∷ at_b (hears (LimitSending Data 10)) ∷ at_b (hears (Send Data message)) ∷ at_b (takes Data message) ∷ at_b (hears (Absolve Data 1))
    ∷ at_b (puts (Issue Data 2)) ∷ at_b (hears (Finish Data)) ∷ []

-- the same, but the message is heard before it was put
abbrev unheard_of : List Joint
unheard_of =
    at_b (puts (LimitReceiving Data 9)) ∷ at_b (puts (Issue Data 5)) ∷ at_b (puts (Plead Data 1)) ∷ at_b (hears (LimitSending Data 10)) ∷ at_b (hears (Send Data message)) ∷ at_b (takes Data message) ∷ at_b (hears (Absolve Data 1)) ∷ at_b (puts (Issue Data 2))
    ∷ at_b (hears (Finish Data)) ∷ at_a (hears (LimitReceiving Data 9)) ∷ at_a (hears (Issue Data 5)) ∷ at_a (puts (LimitSending Data 10)) ∷ at_a (puts (Send Data message)) ∷ at_a (hears (Plead Data 1)) ∷ at_a (puts (Absolve Data 1)) ∷ at_a (puts (Finish Data)) ∷ []

-- what the premise asks of one session, but for the time of its frames
record IsOrderBut (t : Trace) (steps : List Step) : Type 0 where
  put_is : put steps ≡ t.put
  heard_is : heard steps ≡ t.heard
  inboxes : (c : Channel) → entries c steps ≡ without_refusals (t.inbox c)

module _ (id : TableId) (base : InboxSide) where
  -- the versions in which both wrote
  abbrev versions : Versions
  versions = versions_of (trace (a id base) (a_finished id base)) (trace (b id base) (b_finished id base))

  not_legal : IsLegal (opening 6 versions) (history_of too_early) → ⊥
  not_legal h = elim h.1.1.1.1.0 [ inl e ↦ absurd (cc) | inr e ↦ absurd (let n = e.1 in cc) ]

  not_causal : IsLegal (opening 6 versions) (history_of unheard_of) → ⊥
  not_causal h = elim h.1.1.1.0 [ inl e ↦ absurd (cc) | inr e ↦ absurd (let n = e.1 in cc) ]

  -- all of the premise but that frames are in time
  record AllButTime : Type 0 where
    a_order : IsOrderBut (trace (a id base) (a_finished id base)) (of_a too_early)
    b_order : IsOrderBut (trace (b id base) (b_finished id base)) (of_b too_early)
    b_in_time : IsHistory (IsInTime (trace (b id base) (b_finished id base))) (of_b too_early)
    causal : IsHistory IsCausal too_early

  all_but_time : AllButTime
  unfolding a_finished a_report a_settled b_finished b_report b_inbox unused unused_inbox
  all_but_time = record {
    a_order = record { put_is = refl; heard_is = refl; inboxes = each (λ c. entries c (of_a too_early) ≡ without_refusals ((trace (a id base) (a_finished id base)).inbox c)) refl refl refl refl refl refl refl };
    b_order = record { put_is = refl; heard_is = refl; inboxes = each (λ c. entries c (of_b too_early) ≡ without_refusals ((trace (b id base) (b_finished id base)).inbox c)) refl refl refl refl refl refl refl };
    b_in_time = (tt, (tt, (tt, (tt, (tt, (tt, (tt, (tt, (tt, tt)))))))));
    causal = (tt, (tt, ((Issue Data 5 ∷ [], refl), (tt, (tt, (([], refl), (tt, (([], refl), (tt, (tt, ((Send Data message ∷ Absolve Data 1 ∷ Finish Data ∷ [], refl), ((Absolve Data 1 ∷ Finish Data ∷ [], refl), (tt, ((Finish Data ∷ [], refl), (tt, (([], refl), tt))))))))))))))));
  }

  -- all of the premise but that nothing is heard before it was put
  record AllButCausal : Type 0 where
    a_order : IsOrderBut (trace (a id base) (a_finished id base)) (of_a unheard_of)
    b_order : IsOrderBut (trace (b id base) (b_finished id base)) (of_b unheard_of)
    a_in_time : IsHistory (IsInTime (trace (a id base) (a_finished id base))) (of_a unheard_of)
    b_in_time : IsHistory (IsInTime (trace (b id base) (b_finished id base))) (of_b unheard_of)

  all_but_causal : AllButCausal
  unfolding a_finished a_report a_settled b_finished b_report b_inbox unused unused_inbox
  all_but_causal = record {
    a_order = record { put_is = refl; heard_is = refl; inboxes = each (λ c. entries c (of_a unheard_of) ≡ without_refusals ((trace (a id base) (a_finished id base)).inbox c)) refl refl refl refl refl refl refl };
    b_order = record { put_is = refl; heard_is = refl; inboxes = each (λ c. entries c (of_b unheard_of) ≡ without_refusals ((trace (b id base) (b_finished id base)).inbox c)) refl refl refl refl refl refl refl };
    a_in_time = (tt, (tt, (tt, (enough id base, (tt, (enough id base, (tt, tt)))))));
    b_in_time = (tt, (tt, (tt, (tt, (tt, (tt, (tt, (tt, (tt, tt)))))))));
  }
