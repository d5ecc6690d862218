use Rattle.std.proofs.Common.{ℕ, List, ◌-◌, ◌∙◌, ap, arith, drop, take, vec_len}
use Rattle.std.proofs.lemmas.List.{drop-take}
use Rattle.lc_frame.specs.StreamEncoder.{EncoderState}
use Rattle.lc_frame.proofs.stream_encoder.StreamEncoder.truncate.Goals as goal

pub returns : goal.returns
returns c =
    let at = c.self.inside in
    let room = at.capacity - vec_len c.restart.new.buffer in
    let pending = c.restart.ensures.pending ∙ ap (λ (xs : List ℕ). drop at.start xs) c.truncate.ensures.items ∙ drop-take at.start c.args.count at.buffer.items in
    let here : List ℕ → EncoderState = λ xs. record { capacity = at.capacity; pending = xs; room = room } in
    record {
      is = ap here pending ∙ ap (λ (s : EncoderState). record s { pending = take c.args.count s.pending; room = room }) c.self.view_is;
      room = omega (arith, ap (λ (s : EncoderState). s.room) c.self.view_is, c.restart.ensures.len, c.truncate.ensures.len, c.truncate.new.self.ok.0, at.buffer.ok.0);
    }
