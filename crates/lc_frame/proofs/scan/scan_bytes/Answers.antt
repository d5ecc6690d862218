use Rattle.std.proofs.Common.{◌≡◌, ℕ, ◌-◌, List, ◌∷◌, length, take, drop, refl, sym, ap, ◌∙◌, arith}
use Rattle.std.proofs.lemmas.List.{drop_more, length-drop, take_all}
use Rattle.lc_frame.specs.declared.kind.Kind.TheVariants.{Send}
use Rattle.lc_frame.specs.Encoding.{tag_of}
use Rattle.lc_frame.specs.Scan.{scan_number, scan_of}
use Rattle.lc_frame.proofs.Fronts.{scan_tagged}
use Rattle.lc_frame.proofs.scan.scan_bytes.Goals as goal

pub returns-in-Some : goal.returns-in-Some
returns-in-Some c =
    let v = c.args.version in
    let d = c.in-Some.channel in
    let bytes : List ℕ = c.args.bytes.now in
    let rest : List ℕ = drop 1 bytes in
    let all : take (length bytes - 1) rest ≡ rest = take_all (length bytes - 1) rest (omega (arith, length-drop 1 bytes)) in
    let parted : bytes ≡ tag_of Send d ∷ rest = drop_more bytes 0 0 c.in-len1-up.len_at_least ∙ ap (λ (b : ℕ). b ∷ rest) c.in-Some.ensures.some in
    c.scan_send.ensures ∙ (ap (scan_number v Send d) all ∙ sym (ap (scan_of v) parted ∙ scan_tagged v Send d rest refl))
