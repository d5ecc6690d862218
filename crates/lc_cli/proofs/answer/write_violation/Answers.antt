use Rattle.std.proofs.Common.{◌≡◌, subst, ℕ, [], ◌∷◌, ◌++◌, OnOk, codes}
use Rattle.std.specs.Fmt.{decimal}
use Rattle.std.specs.Io.KnownBytes.{Appends}
use Rattle.lc_book.specs.Fault.{violation_number}
use Rattle.lc_cli.proofs.answer.write_violation.Goals as goal

pub returns : goal.returns
returns g c =
    let same : c.from-number.result ≡ violation_number c.args.violation = cc in
    let P : ℕ → Type 0 = λ n. OnOk c.write_numbered.result (Appends (g.W.Write.contents c.args.out.now) (g.W.Write.contents c.write_numbered.new.out) (codes "violation V" ++ (decimal n ++ (10 ∷ [])))) in
    subst P same c.write_numbered.ensures
