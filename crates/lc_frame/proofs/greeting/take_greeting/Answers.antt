use Rattle.std.proofs.Common.{refl, sym, ap, ◌∙◌, length, arith}
use Rattle.lc_frame.specs.Progress.{IsDue}
use Rattle.lc_frame.proofs.Openings.{further, takes_part, still_part, is_whole, breaks, part_short, not_empty}
use Rattle.lc_frame.proofs.greeting.take_greeting.Goals as goal

pub append-requires : goal.append-requires
append-requires c = let short = part_short _ c.bytes.invariant.part in omega (arith, short)

pub append-requires-in-bytes : goal.append-requires-in-bytes
append-requires-in-bytes c = let short = part_short _ c.bytes.invariant.part in omega (arith, short)

pub returns-then-byte-due_after : goal.returns-then-byte-due_after
returns-then-byte-due_after c =
    let buffer = c.bytes.buffer in
    let due : IsDue c.due_after.result buffer = c.due_after.ensures in
    let inv = c.bytes.invariant in (
      breaks _ _ buffer _ c.bytes.taken _ c.due_after.result inv.part due inv.held c.bytes-test.true refl c.append.ensures c.if-byte-due_after.true (λ none. not_empty _ (sym c.if-is_empty.false ∙ c.is_empty.ensures) (omega (arith, ap length none))),
      takes_part _ _ buffer _ c.bytes.taken _ c.due_after.result inv.part due inv.held c.bytes-test.true refl c.append.ensures,
    )

pub returns-then-len-eq4 : goal.returns-then-len-eq4
returns-then-len-eq4 c =
    let buffer = c.bytes.buffer in
    let due : IsDue c.due_after.result buffer = c.due_after.ensures in
    let inv = c.bytes.invariant in (
      is_whole _ _ buffer _ c.bytes.taken _ c.due_after.result inv.part due inv.held c.bytes-test.true refl c.append-in-bytes.ensures c.if-byte-due_after.false (omega arith),
      takes_part _ _ buffer _ c.bytes.taken _ c.due_after.result inv.part due inv.held c.bytes-test.true refl c.append-in-bytes.ensures,
    )

pub bytes-preserved : goal.bytes-preserved
bytes-preserved c =
    let buffer = c.bytes.buffer in
    let due : IsDue c.due_after.result buffer = c.due_after.ensures in
    let inv = c.bytes.invariant in
    record {
      part = still_part _ _ buffer _ c.bytes.taken _ c.due_after.result inv.part due inv.held c.bytes-test.true refl c.append-in-bytes.ensures c.if-byte-due_after.false (λ all. c.if-len-eq4.false (omega arith));
      within = omega arith;
      held = further _ _ buffer _ c.bytes.taken _ c.due_after.result inv.part due inv.held c.bytes-test.true refl c.append-in-bytes.ensures;
    }
