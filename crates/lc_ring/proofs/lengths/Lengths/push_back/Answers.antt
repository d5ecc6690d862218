use Rattle.std.proofs.Common.{ℕ, ◌+◌, ◌≤◌, List, [], ◌∷◌, ◌++◌, length, sym, ap, ◌∙◌, subst, arith}
use Rattle.std.specs.List.{sum}
use Rattle.lc_ring.specs.Laps.{IsPushed}
use Rattle.lc_ring.specs.Lengths.{Lengths}
use Rattle.lc_ring.proofs.Encodings.{short, long, room, pushed-lengths}
use Rattle.lc_ring.proofs.lengths.Lengths.push_back.Goals as goal

pub push-requires-clause-room : goal.push-requires-clause-room
push-requires-clause-room c =
    let fits = subst (λ (ls : Lengths). sum ls.items + c.args.len ≤ ls.capacity) (sym c.self.view_is) c.requires.room in
    omega (arith, room c.self.inside.bytes c.args.len c.self.invariant c.requires.is_length fits, ap length (short c.args.len c.if-len-lt256.true))

pub push-requires-else-len-lt256-clause-room : goal.push-requires-else-len-lt256-clause-room
push-requires-else-len-lt256-clause-room c =
    let fits = subst (λ (ls : Lengths). sum ls.items + c.args.len ≤ ls.capacity) (sym c.self.view_is) c.requires.room in
    omega (arith, room c.self.inside.bytes c.args.len c.self.invariant c.requires.is_length fits, ap length (long c.args.len c.if-len-lt256.false), ap length c.to_be_bytes.ensures)

pub invariant_of-self : goal.invariant_of-self
invariant_of-self c =
    let l = c.self.inside.bytes in
    (pushed-lengths l c.push.new.self c.args.len c.self.invariant c.requires.is_length (subst (λ (xs : List ℕ). IsPushed l xs c.push.new.self) (sym (short c.args.len c.if-len-lt256.true)) c.push.ensures)).0

pub invariant_of-self-else-len-lt256 : goal.invariant_of-self-else-len-lt256
invariant_of-self-else-len-lt256 c =
    let l = c.self.inside.bytes in
    (pushed-lengths l c.push-else-len-lt256.new.self c.args.len c.self.invariant c.requires.is_length (subst (λ (xs : List ℕ). IsPushed l xs c.push-else-len-lt256.new.self) (c.to_be_bytes.ensures ∙ sym (long c.args.len c.if-len-lt256.false)) c.push-else-len-lt256.ensures)).0

pub returns-then-len-lt256 : goal.returns-then-len-lt256
returns-then-len-lt256 c =
    let l = c.self.inside.bytes in
    (pushed-lengths l c.push.new.self c.args.len c.self.invariant c.requires.is_length (subst (λ (xs : List ℕ). IsPushed l xs c.push.new.self) (sym (short c.args.len c.if-len-lt256.true)) c.push.ensures)).1
    ∙ ap (λ (ls : Lengths). record ls { items = ls.items ++ c.args.len ∷ [] }) c.self.view_is

pub returns-else-len-lt256 : goal.returns-else-len-lt256
returns-else-len-lt256 c =
    let l = c.self.inside.bytes in
    (pushed-lengths l c.push-else-len-lt256.new.self c.args.len c.self.invariant c.requires.is_length (subst (λ (xs : List ℕ). IsPushed l xs c.push-else-len-lt256.new.self) (c.to_be_bytes.ensures ∙ sym (long c.args.len c.if-len-lt256.false)) c.push-else-len-lt256.ensures)).1
    ∙ ap (λ (ls : Lengths). record ls { items = ls.items ++ c.args.len ∷ [] }) c.self.view_is
