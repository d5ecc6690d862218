-- What the end of a stream means to its intake.
use Rattle.std.proofs.Common.{◌≡◌, ℕ, List, [], Option, Some, inl, inr, sym, subst}
use Rattle.std.specs.Prelude.{◌⊎◌, Err}
use Rattle.lc_frame.specs.declared.frame.Frame.{Frame}
use Rattle.lc_frame.specs.declared.frame_fault.FrameFault.{FrameFault}
use Rattle.lc_frame.specs.declared.frame_fault.FrameFault.TheVariants.{BadTag, ZeroLength, BadNumber, Truncated}
use Rattle.lc_frame.specs.declared.fill.Filled.{Filled}
use Rattle.lc_frame.specs.declared.fill.Filled.TheVariants.{Few, Failed, Took}
use Rattle.lc_frame.specs.Fill.{FilledAs}
use Rattle.lc_frame.specs.Stored.{Stored, HasFrame, IsUndecided}
use Rattle.lc_frame.specs.StreamDecoder.{EndsAs}
use Rattle.lc_peer.specs.declared.delivery.Stop.{Stop}
use Rattle.lc_peer.specs.declared.delivery.Stop.TheVariants.{Fault}
use Rattle.lc_peer.specs.Intake.{IsOpenUnlessStopped, EndsHere}

-- it ends between two frames, where no frame stands
pub ends_clean : (held : Stored) → (held.bytes ≡ []) ⊎ ((f : Frame) × HasFrame f held) → IsUndecided held → held.bytes ≡ []
ends_clean held (inl nothing) o = nothing
ends_clean held (inr frame) o = absurd (o.no_frame frame.0 frame.1)

-- it ends inside a frame or a greeting, where no fault stands
pub ends_inside : (fault : FrameFault) (held : Stored) → EndsAs {T = Unit {0}} (Err fault) held → IsUndecided held → EndsHere (Some (Fault fault)) held
ends_inside Truncated held part o = part
ends_inside BadTag held fault o = absurd (o.no_fault BadTag fault)
ends_inside ZeroLength held fault o = absurd (o.no_fault ZeroLength fault)
ends_inside BadNumber held fault o = absurd (o.no_fault BadNumber fault)

-- bytes that are given inside a frame leave it open
pub still_open : {R : Type 0} (fills : R → Option ℕ → List ℕ → R → Type 0) (filled : Filled) (before after : R) (old new : Stored) (stop : Option Stop) → FilledAs fills filled before after old new → IsOpenUnlessStopped old stop → IsOpenUnlessStopped new stop
still_open fills Few before after old new stop f kept = λ none. subst IsUndecided (sym f.0) (kept none)
still_open fills Failed before after old new stop f kept = λ none. subst IsUndecided (sym f.same) (kept none)
still_open fills (Took n) before after old new stop f kept = λ none. f.undecided
