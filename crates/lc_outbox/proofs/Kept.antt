-- What every outbox keeps, after each step of a call.
use Rattle.std.proofs.Common.{◌≡◌, ℕ, ◌+◌, ◌<◌, ◌≤◌, List, [], ◌∷◌, ◌++◌, length, Option, Some, None, true, refl, sym, ap, ◌∙◌, subst, append-nil}
use Rattle.std.specs.Prelude.{Result, Ok, Err, IfSome, OnOk, OnErr, is_some, option_to_list, MatchOption}
use Rattle.lc_frame.specs.declared.channel.Channel.{Channel}
use Rattle.lc_frame.specs.declared.frame.Frame.{Frame}
use Rattle.lc_frame.specs.declared.frame.Frame.TheVariants.{Send, Absolve, LimitSending, Finish}
use Rattle.lc_frame.specs.declared.kind.Kind.TheVariants as frames
use Rattle.lc_frame.specs.Frame.{channel_of}
use Rattle.lc_frame.specs.Kind.{has, max_amount}
use Rattle.lc_history.proofs.Histories.{history-push}
use Rattle.lc_book.specs.declared.fault.Refusal.{Refusal}
use Rattle.lc_book.specs.declared.fault.Refusal.TheVariants.{NoGuarantee, NotHeld}
use Rattle.lc_book.specs.Limit.{less, limit_refusal}
use Rattle.lc_book.specs.Client.{Client, message_refusal}
use Rattle.lc_book.specs.Sums.{client_of, client_after_put}
use Rattle.lc_book.proofs.SumsKept.{books_keep_sums}
use Rattle.lc_queue.specs.Parts.{End}
use Rattle.lc_credit.specs.declared.history.Entry.TheVariants.{Returned}
use Rattle.lc_credit.specs.declared.credit_out.Use.{Use}
use Rattle.lc_credit.specs.declared.credit_out.Use.TheVariants as kinds
use Rattle.lc_credit.specs.declared.credit_out.Pending.{Pending}
use Rattle.lc_credit.specs.History.{is_outgoing, Makes}
use Rattle.lc_credit.specs.Sides.{Outgoing, IsIdle, IsUnfinished, LoadsOut, Holds, IsUsed, IsNotSpent, IsNotAbsolved, IsWaived, counted, counted_as, given_back}
use Rattle.lc_outbox.specs.Uses.{uses, amounts}
use Rattle.lc_outbox.specs.Outbox.{OutboxState, IsAllowed, MayPut, IsOutbox}
use Rattle.lc_outbox.specs.Calls.{IsCounted, IsGivenBack}
use Rattle.lc_outbox.specs.Honours.{AnswersFor}
use Rattle.lc_outbox.proofs.Uses.{amounts-push, learned_uses, looked_uses, counted_uses, given_back_uses, waived_uses}

-- what is pending is what was used
pub used_counts : (kind : Use) (n : ℕ) (old between new : Outgoing) → IsUsed kind n old between → IfSome between.pending (λ p. new ≡ counted p between) → new ≡ counted_as kind n between
used_counts kind n old between new used counts = subst (λ (o : Option Pending). IfSome o (λ p. new ≡ counted p between)) (ap (λ (o : Outgoing). o.pending) used.after) counts

pub used_returns : (kind : Use) (n : ℕ) (old between new : Outgoing) → IsUsed kind n old between → IfSome between.pending (λ p. Makes is_outgoing between.seen (Returned p.amount) new.seen) → Makes is_outgoing between.seen (Returned n) new.seen
used_returns kind n old between new used makes = subst (λ (o : Option Pending). IfSome o (λ p. Makes is_outgoing between.seen (Returned p.amount) new.seen)) (ap (λ (o : Outgoing). o.pending) used.after) makes

pub used_given_back : (kind : Use) (n : ℕ) (old between new : Outgoing) → IsUsed kind n old between → IfSome between.pending (λ p. new ≡ given_back p new.seen between) → new ≡ given_back (record { kind = kind; amount = n }) new.seen between
used_given_back kind n old between new used gives = subst (λ (o : Option Pending). IfSome o (λ p. new ≡ given_back p new.seen between)) (ap (λ (o : Outgoing). o.pending) used.after) gives

-- what was pending was counted, or came back
pub is_counted : (kind : Use) (n : ℕ) (old between new : Outgoing) → IsUsed kind n old between → IfSome between.pending (λ p. new ≡ counted p between) → IsCounted kind n old new
is_counted kind n old between new used counts = record { pending = between; used = used; after = used_counts kind n old between new used counts }

pub is_given_back : (kind : Use) (n : ℕ) (old between new : Outgoing) → IsUsed kind n old between → IfSome between.pending (λ p. Makes is_outgoing between.seen (Returned p.amount) new.seen) → IfSome between.pending (λ p. new ≡ given_back p new.seen between)
    → IsGivenBack kind n old new
is_given_back kind n old between new used makes gives = record { pending = between; used = used; makes = used_returns kind n old between new used makes; after = used_given_back kind n old between new used gives }

-- a refusal by what is held comes from a look
pub not_spent_loads : (e : Refusal) (n : ℕ) (old new : Outgoing) → IsNotSpent e n old new → (held : ℕ) × LoadsOut held old new
not_spent_loads (NoGuarantee held) n old new h = (held, h.1)
not_spent_loads e n old new h = absurd h

pub not_absolved_loads : (e : Refusal) (n : ℕ) (old new : Outgoing) → IsNotAbsolved e n old new → (held : ℕ) × LoadsOut held old new
not_absolved_loads (NotHeld held) n old new h = (held, h.1)
not_absolved_loads e n old new h = absurd h

-- an amount that is used is not counted yet
used_spent : (kind : Use) (n : ℕ) (old new : Outgoing) → IsUsed kind n old new → new.spent ≡ old.spent
used_spent kind n old new h = ap (λ (c : Outgoing). c.spent) h.after ∙ ap (λ (c : Outgoing). c.spent) h.loads.after

used_absolved : (kind : Use) (n : ℕ) (old new : Outgoing) → IsUsed kind n old new → new.absolved ≡ old.absolved
used_absolved kind n old new h = ap (λ (c : Outgoing). c.absolved) h.after ∙ ap (λ (c : Outgoing). c.absolved) h.loads.after

used_waived : (kind : Use) (n : ℕ) (old new : Outgoing) → IsUsed kind n old new → new.waived ≡ old.waived
used_waived kind n old new h = ap (λ (c : Outgoing). c.waived) h.after ∙ ap (λ (c : Outgoing). c.waived) h.loads.after

-- what an end has waived does not change by a look
pub loads_unfinished : (held : ℕ) (old new : Outgoing) → LoadsOut held old new → IsUnfinished old → IsUnfinished new
loads_unfinished held old new h unfinished = ap (λ (c : Outgoing). c.waived) h.after ∙ unfinished

pub answers_unfinished : (target kept : Option ℕ) (old new : Outgoing) → AnswersFor target kept old new → IsUnfinished old → IsUnfinished new
answers_unfinished target kept old new h unfinished = let looks = h.looks in ap (λ (c : Outgoing). c.waived) looks.after ∙ unfinished

-- nothing is waived
nothing_waived : (xs : List ℕ) (w : Option ℕ) → w ≡ None → xs ≡ xs ++ option_to_list w
nothing_waived xs w none = sym (append-nil xs) ∙ ap (λ (w : Option ℕ). xs ++ option_to_list w) (sym none)

-- the lane is as it was
pub kept_lane : (o : OutboxState) (lane : End) → lane ≡ o.lane → IsOutbox o → IsOutbox (record o { lane = lane })
kept_lane o lane same is = subst (λ (l : End). IsOutbox (record o { lane = l })) (sym same) is

module _ (o : OutboxState) (is : IsOutbox o) where
  -- nothing was put
  kept_unput : (new : Outgoing) → IsIdle new → new.spent ≡ o.credit.spent → new.absolved ≡ o.credit.absolved → new.waived ≡ o.credit.waived → uses new.seen ≡ uses o.credit.seen → IsOutbox (record o { credit = new })
  kept_unput new idle spent absolved waived used = record {
    lane = is.lane;
    idle = idle;
    spent = spent ∙ is.spent;
    absolved = absolved ∙ is.absolved;
    uses = used ∙ (is.uses ∙ ap (λ (w : Option ℕ). amounts o.lane.put ++ option_to_list w) (sym waived));
    finished = ap (λ (w : Option ℕ). is_some w) waived ∙ is.finished;
    left = is.left;
    rules = is.rules;
  }

  pub kept_loads : (held : ℕ) (new : Outgoing) → LoadsOut held o.credit new → IsOutbox (record o { credit = new })
  kept_loads held new h =
      kept_unput new (ap (λ (c : Outgoing). c.pending) h.after ∙ is.idle) (ap (λ (c : Outgoing). c.spent) h.after) (ap (λ (c : Outgoing). c.absolved) h.after) (ap (λ (c : Outgoing). c.waived) h.after) (learned_uses o.credit.seen new.seen h.learns)

  -- the uses of a credit that is not finished
  open_uses : IsUnfinished o.credit → uses o.credit.seen ≡ amounts o.lane.put
  open_uses unfinished = is.uses ∙ sym (nothing_waived (amounts o.lane.put) o.credit.waived unfinished)

  -- of a finished credit nothing was loaded
  pub kept_holds : (held : ℕ) (new : Outgoing) → Holds held o.credit new → IsOutbox (record o { credit = new })
  kept_holds held new h = holds o.credit.waived h
    where
      holds : (waived : Option ℕ) → MatchOption waived (LoadsOut held o.credit new) (λ _. (held ≡ 0) × (new ≡ o.credit)) → IsOutbox (record o { credit = new })
      holds None h = kept_loads held new h
      holds (Some taken) h = subst (λ (c : Outgoing). IsOutbox (record o { credit = c })) (sym h.1) is

  pub kept_answers : (target kept : Option ℕ) (new : Outgoing) → AnswersFor target kept o.credit new → IsOutbox (record o { credit = new })
  kept_answers target kept new h =
      let looks = h.looks in
      kept_unput new (ap (λ (c : Outgoing). c.pending) looks.after ∙ is.idle) (ap (λ (c : Outgoing). c.spent) looks.after) (ap (λ (c : Outgoing). c.absolved) looks.after) (ap (λ (c : Outgoing). c.waived) looks.after) (looked_uses h.taken o.credit new looks)

  pub kept_back : (kind : Use) (n : ℕ) (lane : End) (new : Outgoing) → lane ≡ o.lane → IsGivenBack kind n o.credit new → IsOutbox (record o { lane = lane; credit = new })
  kept_back kind n lane new same h =
      kept_lane (record o { credit = new }) lane same
      (kept_unput new (ap (λ (c : Outgoing). c.pending) h.after)
      (ap (λ (c : Outgoing). c.spent) h.after ∙ used_spent kind n o.credit h.pending h.used)
      (ap (λ (c : Outgoing). c.absolved) h.after ∙ used_absolved kind n o.credit h.pending h.used)
      (ap (λ (c : Outgoing). c.waived) h.after ∙ used_waived kind n o.credit h.pending h.used)
      (given_back_uses kind n o.credit new h))

  -- the book of what was put
  abbrev mine : Client
  mine = record (client_of o.lane.version o.channel o.lane.put [] None) { spent = o.credit.spent; absolved = o.credit.absolved; send_left = o.send_left; finished = is_some o.credit.waived }

  -- a frame was put that might be, and what is counted and left is by its book's rule
  kept_put : (f : Frame) (lane : End) (new : Outgoing) (left : Option ℕ) → IsUnfinished o.credit → IsAllowed o.lane.version o.send_left f → lane ≡ record o.lane { put = o.lane.put ++ f ∷ [] } → o.channel ≡ channel_of f → IsIdle new → new.spent ≡ (client_after_put f mine).spent → new.absolved ≡ (client_after_put f mine).absolved
      → is_some new.waived ≡ (client_after_put f mine).finished → uses new.seen ≡ (amounts o.lane.put ++ amounts (f ∷ [])) ++ option_to_list new.waived → left ≡ (client_after_put f mine).send_left → IsOutbox (record o { lane = lane; credit = new; send_left = left })
  kept_put f lane new left unfinished allowed same on idle spent absolved finished used left_is =
      let may : MayPut o.lane.version o.channel o.lane.put f = (sym on, sym is.finished ∙ ap (λ (w : Option ℕ). is_some w) unfinished, subst (λ (left : Option ℕ). IsAllowed o.lane.version left f) is.left allowed) in
      let sums : client_after_put f mine ≡ client_of o.lane.version o.channel (o.lane.put ++ f ∷ []) [] None =
      ap (client_after_put f) (λ i. record (client_of o.lane.version o.channel o.lane.put [] None) { spent = is.spent i; absolved = is.absolved i; send_left = is.left i; finished = is.finished i })
      ∙ subst (λ (c : Channel). client_after_put f (client_of o.lane.version c o.lane.put [] None) ≡ client_of o.lane.version c (o.lane.put ++ f ∷ []) [] None) (sym on) (books_keep_sums o.lane.version 0 o.lane.put [] None 0 f).0.put_here in
      subst (λ (l : End). IsOutbox (record o { lane = l; credit = new; send_left = left })) (sym same) (record {
        lane = is.lane;
        idle = idle;
        spent = spent ∙ ap (λ (b : Client). b.spent) sums;
        absolved = absolved ∙ ap (λ (b : Client). b.absolved) sums;
        uses = used ∙ ap (λ (xs : List ℕ). xs ++ option_to_list new.waived) (sym (amounts-push o.lane.put f));
        finished = finished ∙ ap (λ (b : Client). b.finished) sums;
        left = left_is ∙ ap (λ (b : Client). b.send_left) sums;
        rules = history-push (MayPut o.lane.version o.channel) o.lane.put f may is.rules;
      })

  -- and it is no Finish
  kept_open : (f : Frame) (lane : End) (new : Outgoing) (left : Option ℕ) → (client_after_put f mine).finished ≡ is_some o.credit.waived → IsUnfinished o.credit → IsAllowed o.lane.version o.send_left f → lane ≡ record o.lane { put = o.lane.put ++ f ∷ [] } → o.channel ≡ channel_of f → IsIdle new → new.spent ≡ (client_after_put f mine).spent
      → new.absolved ≡ (client_after_put f mine).absolved → new.waived ≡ o.credit.waived → uses new.seen ≡ uses o.credit.seen ++ amounts (f ∷ []) → left ≡ (client_after_put f mine).send_left → IsOutbox (record o { lane = lane; credit = new; send_left = left })
  kept_open f lane new left stays unfinished allowed same on idle spent absolved waived used left_is =
      kept_put f lane new left unfinished allowed same on idle spent absolved
      (ap (λ (w : Option ℕ). is_some w) waived ∙ sym stays)
      (used ∙ (ap (λ (xs : List ℕ). xs ++ amounts (f ∷ [])) (open_uses unfinished) ∙ nothing_waived (amounts o.lane.put ++ amounts (f ∷ [])) new.waived (waived ∙ unfinished)))
      left_is

  pub kept_sent : (n : ℕ) (body : List ℕ) (lane : End) (new : Outgoing) (left : Option ℕ) → IsUnfinished o.credit → n ≡ length body → message_refusal o.lane.version o.send_left n ≡ None → lane ≡ record o.lane { put = o.lane.put ++ Send o.channel body ∷ [] } → left ≡ less o.send_left n → IsCounted kinds.Spend n o.credit new
      → IsOutbox (record o { lane = lane; credit = new; send_left = left })
  kept_sent n body lane new left unfinished len allowed same left_is h =
      kept_open (Send o.channel body) lane new left refl unfinished (subst (λ (m : ℕ). message_refusal o.lane.version o.send_left m ≡ None) len allowed) same refl (ap (λ (c : Outgoing). c.pending) h.after)
      (ap (λ (c : Outgoing). c.spent) h.after ∙ (ap (λ m. m + n) (used_spent kinds.Spend n o.credit h.pending h.used) ∙ ap (λ m. o.credit.spent + m) len))
      (ap (λ (c : Outgoing). c.absolved) h.after ∙ used_absolved kinds.Spend n o.credit h.pending h.used)
      (ap (λ (c : Outgoing). c.waived) h.after ∙ used_waived kinds.Spend n o.credit h.pending h.used)
      (counted_uses kinds.Spend n o.credit new h ∙ ap (λ m. uses o.credit.seen ++ m ∷ []) len)
      (left_is ∙ ap (less o.send_left) len)

  pub kept_absolved : (n : ℕ) (lane : End) (new : Outgoing) → IsUnfinished o.credit → 0 < n → n ≤ max_amount → lane ≡ record o.lane { put = o.lane.put ++ Absolve o.channel n ∷ [] } → IsCounted kinds.Absolve n o.credit new → IsOutbox (record o { lane = lane; credit = new })
  kept_absolved n lane new unfinished some small same h =
      kept_open (Absolve o.channel n) lane new o.send_left refl unfinished (some, small) same refl (ap (λ (c : Outgoing). c.pending) h.after)
      (ap (λ (c : Outgoing). c.spent) h.after ∙ used_spent kinds.Absolve n o.credit h.pending h.used)
      (ap (λ (c : Outgoing). c.absolved) h.after ∙ ap (λ m. m + n) (used_absolved kinds.Absolve n o.credit h.pending h.used))
      (ap (λ (c : Outgoing). c.waived) h.after ∙ used_waived kinds.Absolve n o.credit h.pending h.used)
      (counted_uses kinds.Absolve n o.credit new h)
      refl

  -- it was, or came back
  pub kept_either : {A E : Type 0} (r : Result A E) (n : ℕ) (lane : End) (between new : Outgoing) → IsUnfinished o.credit → 0 < n → n ≤ max_amount → IsUsed kinds.Absolve n o.credit between → OnOk r (lane ≡ record o.lane { put = o.lane.put ++ Absolve o.channel n ∷ [] }) → OnOk r (IfSome between.pending (λ p. new ≡ counted p between)) → OnErr r (lane ≡ o.lane)
      → OnErr r (IfSome between.pending (λ p. Makes is_outgoing between.seen (Returned p.amount) new.seen)) → OnErr r (IfSome between.pending (λ p. new ≡ given_back p new.seen between)) → IsOutbox (record o { lane = lane; credit = new })
  kept_either (Ok u) n lane between new unfinished some small used same counts unput makes gives = kept_absolved n lane new unfinished some small same (is_counted kinds.Absolve n o.credit between new used counts)
  kept_either (Err e) n lane between new unfinished some small used same counts unput makes gives = kept_back kinds.Absolve n lane new unput (is_given_back kinds.Absolve n o.credit between new used makes gives)

  pub kept_limited : (bound : ℕ) (lane : End) → IsUnfinished o.credit → limit_refusal o.send_left bound ≡ None → lane ≡ record o.lane { put = o.lane.put ++ LimitSending o.channel bound ∷ [] } → IsOutbox (record o { lane = lane; send_left = Some bound })
  kept_limited bound lane unfinished allowed same =
      kept_open (LimitSending o.channel bound) lane o.credit (Some bound) refl unfinished allowed same refl is.idle refl refl refl (sym (append-nil (uses o.credit.seen))) refl

  pub kept_finished : (lane : End) (new : Outgoing) → IsUnfinished o.credit → has o.lane.version frames.Finish ≡ true → lane ≡ record o.lane { put = o.lane.put ++ Finish o.channel ∷ [] } → IsWaived o.credit new → IsOutbox (record o { lane = lane; credit = new })
  kept_finished lane new unfinished known same h =
      kept_put (Finish o.channel) lane new o.send_left unfinished known same refl (ap (λ (c : Outgoing). c.pending) h.after ∙ (ap (λ (c : Outgoing). c.pending) h.loads.after ∙ is.idle))
      (ap (λ (c : Outgoing). c.spent) h.after ∙ ap (λ (c : Outgoing). c.spent) h.loads.after)
      (ap (λ (c : Outgoing). c.absolved) h.after ∙ ap (λ (c : Outgoing). c.absolved) h.loads.after)
      (ap (λ (c : Outgoing). is_some c.waived) h.after)
      (waived_uses o.credit new h ∙ (ap (λ (xs : List ℕ). xs ++ h.held ∷ []) (open_uses unfinished ∙ sym (append-nil (amounts o.lane.put))) ∙ ap (λ (w : Option ℕ). (amounts o.lane.put ++ []) ++ option_to_list w) (sym (ap (λ (c : Outgoing). c.waived) h.after))))
      refl

  -- another target is kept
  pub kept_target : (asked : Option ℕ) → IsOutbox (record o { asked = asked })
  kept_target asked = record { lane = is.lane; idle = is.idle; spent = is.spent; absolved = is.absolved; uses = is.uses; finished = is.finished; left = is.left; rules = is.rules }
