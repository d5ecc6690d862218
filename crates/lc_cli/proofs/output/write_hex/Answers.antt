use Rattle.std.proofs.Common.{rules, [], refl, subst, ◌++◌}
use Rattle.std.specs.Io.KnownBytes.{Appends}
use Rattle.std.proofs.KnownBytes.{Appends-nil}
use Rattle.hex.specs.Hex.{encode_with}
use Rattle.lc_cli.proofs.Written.{Appends-encoded, split-parts}
use Rattle.lc_cli.proofs.output.write_hex.Goals as goal

pub loop-rest-init : goal.loop-rest-init
unfolding encode_with
loop-rest-init g c = ([], refl, Appends-nil _)

pub loop-rest-preserved : goal.loop-rest-preserved
loop-rest-preserved g c =
    let (front, whole, written) = c.loop-rest.invariant in
    let piece = c.split_at.result.0.now in (
      front ++ piece,
      split-parts _ front c.loop-rest.rest.now piece c.split_at.result.1.now _ whole c.split_at.ensures.front c.split_at.ensures.back,
      Appends-encoded _ _ _ front piece written (subst (Appends _ _) c.encode.ensures c.in_ok-write_all.ensures.bytes),
    )

pub loop-rest-smaller : goal.loop-rest-smaller
loop-rest-smaller g c = search rules
