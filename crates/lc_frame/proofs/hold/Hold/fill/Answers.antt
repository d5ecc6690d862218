use Rattle.std.proofs.Common.{◌≡◌, ◌+◌, ◌++◌, ◌≤◌, ℕ, List, length, take, drop, replicate, ap, sym, ◌∙◌, arith}
use Rattle.std.proofs.lemmas.List.{take_at, length-append, length-replicate}
use Rattle.lc_frame.proofs.Holds.{filled_front}
use Rattle.lc_frame.proofs.hold.Hold.fill.Goals as goal

pub returns-in-Some : goal.returns-in-Some
returns-in-Some g c =
    let memory = c.fill-answer.new.memory in
    let count = c.in-Some.count in
    let len = c.len-held.result in
    let items = c.self.inside.bytes.items in
    let asked = c.args.asked in
    let zeros : List ℕ = replicate asked 0 in
    let there : length items ≡ len = omega arith in
    let all : c.put_zeros.new.bytes.len ≡ len + asked = omega (arith, there, ap length c.put_zeros.ensures.zeros, length-append items zeros, length-replicate {A = ℕ} asked 0) in
    let before = c.split_at_mut.result.0.now in
    let held : before ≡ c.args.self.now = c.split_at_mut.ensures.front ∙ ap (λ (xs : List ℕ). take len xs) (c.deref_mut.ensures.value ∙ c.put_zeros.ensures.zeros) ∙ take_at items zeros len there ∙ c.self.view_is in
    let tail : List ℕ = drop (length (before ++ memory)) c.put_zeros.new.bytes.items in
    let size : length memory ≡ asked = omega (arith, all) in
    let within : count ≤ asked = omega (arith, size, c.in-Some.ensures.bound) in
    let front = filled_front len count c.put_zeros.new.bytes.len before memory tail (sym c.split_at_mut.ensures.front_len) c.in-Some.ensures.bound (omega (arith, within, all)) in
    record {
      memory = memory;
      size = size;
      filled = c.in-Some.ensures.fills;
      bytes = c.in-Some.ensures.bytes;
      grows = (within, c.truncate.ensures.items ∙ front ∙ ap (λ (xs : List ℕ). xs ++ take count memory) held);
    }
