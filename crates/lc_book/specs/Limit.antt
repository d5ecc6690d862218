-- What is left of a limit, on sending or on receiving; None where there is no limit. That a client may bound its sending and a server its receiving is LCMUX's; that a limit counts bytes from its frame on is this project's own.
use Rattle.std.specs.Prelude.{ℕ, ◌-◌, nat_lt, Bool, false, if◌then◌else◌, Option, Some, None, unwrap_or}
use Rattle.std.specs.Option.{option_map}
use Rattle.lc_frame.specs.Kind.{max_total}
use Rattle.lc_book.specs.declared.fault.Refusal.{Refusal}
use Rattle.lc_book.specs.declared.fault.Refusal.TheVariants.{BoundTooLarge, LimitRaised}

-- whether a number is above what is left; a limit that is not there is never passed
abbrev pub is_past : Option ℕ → ℕ → Bool
is_past None n = false
is_past (Some left) n = nat_lt left n

-- what is left after so many bytes
abbrev pub less : Option ℕ → ℕ → Option ℕ
less left n = option_map (λ m. m - n) left

-- what is left of a limit, as a refusal names it
abbrev pub left_of : Option ℕ → ℕ
left_of left = unwrap_or left 0

-- why a side may not limit itself so: 7, the bound is above 2^62, or 8, it is above what an earlier limit leaves
abbrev pub limit_refusal : Option ℕ → ℕ → Option Refusal
limit_refusal left bound =
    if nat_lt max_total bound then Some BoundTooLarge
    else (if is_past left bound then Some (LimitRaised (left_of left))
    else None)
