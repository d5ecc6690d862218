-- What calls leave of a device's counts, one call and another.
use Rattle.std.proofs.Common.{◌≡◌, ℕ, ◌+◌, ◌<◌, ◌≤◌, cond, eqb, ltb, ◌&&◌, Option, Ok, Err, IsSome, List, refl, sym, ap, subst, ◌∙◌, arith}
use Rattle.std.proofs.lemmas.Bool.Decides.{nat_tests}
use Rattle.std.specs.Io.KnownBytes.{IsAtEnd}
use Rattle.std.specs.declared.io.Error.{Error}
use Rattle.std.specs.declared.io.ErrorKind.{ErrorKind}
use Rattle.lc_frame.specs.Stored.{Stored}
use Rattle.lc_driver.specs.declared.counts.Counts.{Counts}
use Rattle.lc_driver.specs.declared.reading.ReadEnd.{ReadEnd}
use Rattle.lc_driver.specs.declared.reading.ReadEnd.TheVariants.{Clean, Truncated, Fault, Violated, ReadFailed, TurnsSpent}
use Rattle.lc_driver.specs.Counts.{count_up, count_on, CountsCall}
use Rattle.lc_driver.specs.Reading.{EndsHere}
use Rattle.lc_driver.specs.Reading.{CountsReads, EndsInput}

-- a count that a call that moved some bytes leaves
count_stays : (n asked before after more : ℕ) → (n ≡ 0 → ⊥) → after ≡ cond (eqb n 0 && ltb 0 asked) more before → after ≡ before
count_stays n asked before after more some e = grind (arith, nat_tests)

-- a call that was asked for some bytes and moved none counts one end
count_ends : (n asked before after more : ℕ) → n ≡ 0 → 0 < asked → after ≡ cond (eqb n 0 && ltb 0 asked) more before → after ≡ more
count_ends n asked before after more none some e = grind (arith, nat_tests)

one_more : (n : ℕ) → count_up n ≤ n + 1
one_more n = grind (arith, nat_tests)

-- counts by their fields
counts_are : (c : Counts) (f e : ℕ) (l : Option ErrorKind) → c.failures ≡ f → c.ends ≡ e → c.last_failure ≡ l → c ≡ record { calls = c.calls; failures = f; ends = e; last_failure = l }
counts_are c f e l failures ends last = λ i. record { calls = c.calls; failures = failures i; ends = ends i; last_failure = last i }

-- calls were made, none of which failed or ended
abbrev pub NoneTold : Counts → Counts → Type 0
NoneTold old now = now ≡ record old { calls = now.calls }

pub none_told_then : (old now new : Counts) → NoneTold old now → NoneTold now new → NoneTold old new
none_told_then old now new before after =
    counts_are new old.failures old.ends old.last_failure
    (ap (λ (c : Counts). c.failures) after ∙ ap (λ (c : Counts). c.failures) before)
    (ap (λ (c : Counts). c.ends) after ∙ ap (λ (c : Counts). c.ends) before)
    (ap (λ (c : Counts). c.last_failure) after ∙ ap (λ (c : Counts). c.last_failure) before)

pub call_goes_on : (old now new : Counts) (n asked : ℕ) → (n ≡ 0 → ⊥) → NoneTold old now → CountsCall (Ok n) asked now new → NoneTold old new
call_goes_on old now new n asked some before call =
    counts_are new old.failures old.ends old.last_failure
    (ap (λ (c : Counts). c.failures) call ∙ ap (λ (c : Counts). c.failures) before)
    (count_stays n asked now.ends new.ends (count_up now.ends) some (ap (λ (c : Counts). c.ends) call) ∙ ap (λ (c : Counts). c.ends) before)
    (ap (λ (c : Counts). c.last_failure) call ∙ ap (λ (c : Counts). c.last_failure) before)

pub call_ends : (old now new : Counts) (n asked : ℕ) → n ≡ 0 → 0 < asked → NoneTold old now → CountsCall (Ok n) asked now new → new ≡ record old { calls = new.calls; ends = count_up old.ends }
call_ends old now new n asked none some before call =
    counts_are new old.failures (count_up old.ends) old.last_failure
    (ap (λ (c : Counts). c.failures) call ∙ ap (λ (c : Counts). c.failures) before)
    (count_ends n asked now.ends new.ends (count_up now.ends) none some (ap (λ (c : Counts). c.ends) call) ∙ ap (λ (c : Counts). count_up c.ends) before)
    (ap (λ (c : Counts). c.last_failure) call ∙ ap (λ (c : Counts). c.last_failure) before)

pub call_fails : (old now new : Counts) (e : Error) (asked : ℕ) → NoneTold old now → CountsCall (Err e) asked now new → (new ≡ record old { calls = new.calls; failures = count_up old.failures; last_failure = new.last_failure }) × IsSome new.last_failure
call_fails old now new e asked before call = (
  counts_are new (count_up old.failures) old.ends new.last_failure
      (ap (λ (c : Counts). c.failures) call ∙ ap (λ (c : Counts). count_up c.failures) before)
      (ap (λ (c : Counts). c.ends) call ∙ ap (λ (c : Counts). c.ends) before)
      refl,
  subst (λ (l : Option ErrorKind). IsSome l) (sym (ap (λ (c : Counts). c.last_failure) call)) refl,
)

-- one call more
pub call_counts : (old now new : Counts) (n asked k : ℕ) → now.calls ≤ old.calls + k → CountsCall (Ok n) asked now new → new.calls ≤ old.calls + (k + 1)
call_counts old now new n asked k few call = omega (arith, few, ap (λ (c : Counts). c.calls) call, one_more now.calls)

pub failure_counts : (old now new : Counts) (e : Error) (asked k : ℕ) → now.calls ≤ old.calls + k → CountsCall (Err e) asked now new → new.calls ≤ old.calls + (k + 1)
failure_counts old now new e asked k few call = omega (arith, few, ap (λ (c : Counts). c.calls) call, one_more now.calls)

one_more_on : (k n : ℕ) → count_up (count_on k n) ≡ count_on (k + 1) n
one_more_on k n = grind (arith, nat_tests)

-- the same, exactly
pub calls_count_on : (old now new : Counts) (n asked k : ℕ) → now.calls ≡ count_on k old.calls → CountsCall (Ok n) asked now new → new.calls ≡ count_on (k + 1) old.calls
calls_count_on old now new n asked k so_many call = ap (λ (c : Counts). c.calls) call ∙ ap count_up so_many ∙ one_more_on k old.calls

-- a read that gave nothing: the input ended
pub counts_end : (end : ReadEnd) (held : Stored) (old new : Counts) → EndsHere end held → new ≡ record old { calls = new.calls; ends = count_up old.ends } → CountsReads end old new
counts_end Clean held old new e counts = counts
counts_end Truncated held old new e counts = counts
counts_end (Fault fault) held old new e counts = absurd e
counts_end (Violated violation) held old new e counts = absurd e
counts_end ReadFailed held old new e counts = absurd e
counts_end TurnsSpent held old new e counts = absurd e

pub ends_input : (end : ReadEnd) (held : Stored) (remaining : Option (List ℕ)) → EndsHere end held → IsAtEnd remaining → EndsInput end remaining
ends_input Clean held remaining e at = at
ends_input Truncated held remaining e at = at
ends_input (Fault fault) held remaining e at = absurd e
ends_input (Violated violation) held remaining e at = absurd e
ends_input ReadFailed held remaining e at = absurd e
ends_input TurnsSpent held remaining e at = absurd e
