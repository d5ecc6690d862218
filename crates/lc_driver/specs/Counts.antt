-- What a device counts. That a device tells its calls, failures and ends by counts is this project's own.
use Rattle.std.specs.Prelude.{◌≡◌, ℕ, ◌+◌, ◌-◌, ◌^◌, ◌==◌, ◌&&◌, min, nat_lt, if◌then◌else◌, Result, Ok, Err, Some}
use Rattle.std.specs.IoError.{error_kind}
use Rattle.std.specs.declared.io.Error.{Error}
use Rattle.lc_driver.specs.declared.counts.Counts.{Counts}

-- one more, up to the greatest number
abbrev pub count_up : ℕ → ℕ
count_up n = if nat_lt n (2 ^ 64 - 1) then n + 1 else n

-- so many more, up to the greatest number
abbrev pub count_on : ℕ → ℕ → ℕ
count_on more n = min (n + more) (2 ^ 64 - 1)

-- one failure more, of this kind
abbrev pub with_failure : Counts → Error → Counts
with_failure c e = record c { failures = count_up c.failures; last_failure = Some (error_kind e) }

-- what a read or a write that was asked for so many bytes does to the counts
abbrev pub CountsCall : Result ℕ Error → ℕ → Counts → Counts → Type 0
CountsCall (Ok n) asked old new = new ≡ record old { calls = count_up old.calls; ends = if n == 0 && nat_lt 0 asked then count_up old.ends else old.ends }
CountsCall (Err e) asked old new = new ≡ with_failure (record old { calls = count_up old.calls }) e

-- what a flush does to them
abbrev pub CountsFlush : {A : Type 0} → Result A Error → Counts → Counts → Type 0
CountsFlush (Ok x) old new = new ≡ old
CountsFlush (Err e) old new = new ≡ with_failure old e
