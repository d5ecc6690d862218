-- What a decoder remembers where more of a frame is missing than is asked for at once.
use Rattle.std.proofs.Common.{◌≡◌, ℕ, ◌+◌, ◌≤◌, List, [], length, Some, refl, sym, ap, subst, ◌∙◌, arith}
use Rattle.std.proofs.lemmas.List.{append-nil, length-append}
use Rattle.lc_frame.specs.declared.version.Version.{Version}
use Rattle.lc_frame.specs.declared.scan.Scan.TheVariants as scans
use Rattle.lc_frame.specs.declared.progress.Progress.{Progress}
use Rattle.lc_frame.specs.declared.progress.Progress.TheVariants.{Wants, Whole, Fault, Greeted, Broken}
use Rattle.lc_frame.specs.Scan.{scan_of}
use Rattle.lc_frame.specs.Stored.{Stored}
use Rattle.lc_frame.specs.Fill.{fill_len, LacksMore}
use Rattle.lc_frame.specs.Progress.{Remembers, known_version}
use Rattle.lc_frame.proofs.Fronts.{headed_again, stands_whole, stands_fault}

needs_is : {m n : ℕ} → scans.Needs m ≡ scans.Needs n → m ≡ n
needs_is e = cc

some_is : {v w : Version} → Some v ≡ Some w → v ≡ w
some_is e = cc

-- what a scan finds of the bytes of a frame that lacks more
lacks_again : (v : Version) (inside : List ℕ) (l : LacksMore (record { version = Some v; bytes = inside })) → scan_of v inside ≡ scans.Needs (length inside + length l.missing)
lacks_again v inside l =
    let there = headed_again l.version l.frame inside l.missing l.valid l.is l.headed (omega (arith, l.more)) in
    subst (λ (u : Version). scan_of u inside ≡ scans.Needs (length inside + length l.missing)) (sym (some_is l.known)) there

few_missing : (v : Version) (progress : Progress) (inside : List ℕ) → Remembers v progress inside → ((n : ℕ) → progress ≡ Wants n → n ≤ length inside + fill_len)
    → ¬ LacksMore (record { version = known_version v progress; bytes = inside })
few_missing v (Wants n) inside k few = λ l.
    let needs : scan_of v inside ≡ scans.Needs n = ap (scan_of v) (sym (append-nil inside)) ∙ k.again [] (omega (arith, k.short, length-append inside [])) in
    omega (arith, needs_is (sym (lacks_again v inside l) ∙ needs), few n refl, l.more)
few_missing v (Whole head) inside k few = λ l. let both = sym (stands_whole v _ inside k.only.stands) ∙ lacks_again v inside l in cc
few_missing v (Fault fault) inside k few = λ l. let both = sym (stands_fault v fault inside k.stands) ∙ lacks_again v inside l in cc
few_missing v Greeted inside k few = λ l. let none = l.known in cc
few_missing v Broken inside k few = λ l. let none = l.known in cc

-- a frame lacks no more than is asked for at once, where so few bytes make more known
pub lacks_few : (v : Version) (progress : Progress) (inside : List ℕ) (held : Stored) → Remembers v progress inside → record { version = known_version v progress; bytes = inside } ≡ held
    → ((n : ℕ) → progress ≡ Wants n → n ≤ length inside + fill_len) → ¬ LacksMore held
lacks_few v progress inside held knows view_is few = subst (λ (h : Stored). ¬ LacksMore h) view_is (few_missing v progress inside knows few)
