-- What is kept by the arrival of one frame is kept by a delivery of any number of bytes.
use Rattle.std.proofs.Common.{◌≡◌, ℕ, true, false, List, [], ◌∷◌, refl, subst}
use Rattle.std.specs.Prelude.{◌+◌, ◌-◌, nat_lt, if◌then◌else◌}
use Rattle.lc_frame.specs.declared.frame.Frame.{Frame}
use Rattle.lc_world.specs.State.{Line, size, arrive_first, arrive_on, deliver_over, deliver_on}

-- a property of lines that does not look at how many bytes have come of the greeting and of a frame
pub record IsKeptByArrivals (P : Line → Type 0) : Type 0 where
  pub begins : (l : Line) (m n : ℕ) → P l → P (record l { greeting_left = m; begun = n })
  pub arrives : (l : Line) → P l → P (arrive_on l)

module _ (P : Line → Type 0) (kept : IsKeptByArrivals P) where
  pub over : (frames : List Frame) (n : ℕ) (l : Line) → l.in_flight ≡ frames → P l → P (deliver_over frames n l)
  over [] n l e h = h
  over (f ∷ rest) n l e h =
      elim (nat_lt n (size l.version f)) as (λ b. P (if b then record l { begun = n } else deliver_over rest (n - size l.version f) (arrive_first l (f ∷ rest)))) [
        | true ↦ kept.begins l l.greeting_left n h
        | false ↦ over rest (n - size l.version f) (arrive_first l (f ∷ rest)) refl (subst (λ (fs : List Frame). P (arrive_first l fs)) e (kept.arrives l h))
      ]

  pub deliver_keeps : (count : ℕ) (l : Line) → P l → P (deliver_on count l)
  deliver_keeps count l h = over l.in_flight (l.begun + (count - l.greeting_left)) (record l { greeting_left = l.greeting_left - count }) refl (kept.begins l (l.greeting_left - count) l.begun h)
