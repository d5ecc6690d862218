use Rattle.std.proofs.Common.{rules, ◌≡◌, ◌+◌, ◌++◌, [], ◌∷◌, take, List, sym, ap, subst, ◌∙◌, arith}
use Rattle.std.specs.List.{zip}
use Rattle.lc_world.specs.declared.event.Event.{Event}
use Rattle.lc_world.specs.declared.event.Answer.{Answer}
use Rattle.lc_world.specs.State.{State, by_side, opening}
use Rattle.lc_world.specs.Answers.{IsAnswer, after}
use Rattle.lc_world.specs.Histories.{History, IsLegal}
use Rattle.lc_world.proofs.Runs.{legal_push, after_push, zip_more, legal_whole}
use Rattle.lc_world.proofs.Guarantees.{keeps_guarantees}
use Rattle.lc_world.proofs.world.run_as.Goals as goal

pub loop-event-preserved : goal.loop-event-preserved
loop-event-preserved c =
    let inv = c.loop-event.invariant in
    let answers = c.loop-event.answers in
    let event = c.event-item.result in
    let answer = c.step-answer.result in
    let old : History = zip (take c.loop-event.event-index c.args.events.now) answers.items in
    let more : zip (take (c.loop-event.event-index + 1) c.args.events.now) c.push.new.self.items ≡ old ++ (event, answer) ∷ [] =
    ap (λ (as' : List Answer). zip (take (c.loop-event.event-index + 1) c.args.events.now) as') c.in-Ok-push.ensures.items
    ∙ (zip_more c.args.events.now answers.items c.loop-event.event-index event answer c.loop-event-test.true (omega (arith, inv.count, answers.ok.0))
    ∙ ap (λ (e : Event). old ++ (e, answer) ∷ []) (sym c.event-item.is)) in
    record {
      count = omega (arith, inv.count, c.in-Ok-push.ensures.len);
      places = omega (arith, inv.places, c.in-Ok-push.ensures.capacity);
      legal = rw more (legal_push (opening c.args.capacity (by_side c.args.versions)) old event answer inv.legal (subst (λ (w : State). IsAnswer w event answer) inv.state c.step-answer.ensures.answer));
      state = rw (more, after_push) (c.step-answer.ensures.state ∙ ap (λ (w : State). after w event answer) inv.state);
    }

pub returns-clause-keeps : goal.returns-clause-keeps
returns-clause-keeps c =
    let legal : IsLegal (opening c.args.capacity (by_side c.args.versions)) (zip c.args.events.now c.loop-event.answers.items) = legal_whole _ c.loop-event.event-index _ _ (search rules) c.loop-event.invariant.legal in
    keeps_guarantees c.args.capacity (by_side c.args.versions) (zip c.args.events.now c.loop-event.answers.items) (record { is_capacity = record { at_least = search rules; at_most = search rules }; legal = legal })
