use Rattle.std.proofs.Common.{ap, ◌∙◌, length, arith}
use Rattle.std.proofs.lemmas.List.{length-drop}
use Rattle.lc_frame.specs.StreamEncoder.{EncoderState}
use Rattle.lc_frame.proofs.stream_encoder.StreamEncoder.room.Goals as goal

pub returns-clause-all : goal.returns-clause-all
returns-clause-all c = λ nothing.
    let at = c.self.invariant in
    let none = ap (λ (s : EncoderState). length s.pending) c.self.view_is ∙ ap length nothing in
    let behind = length-drop c.self.inside.start c.self.inside.buffer.items in
    let zero = at.all (omega (arith, none, behind, at.within, c.self.inside.buffer.ok.0)) in
    omega (arith, zero, c.len.ensures, ap (λ (s : EncoderState). s.capacity) c.self.view_is)
