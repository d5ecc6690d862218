-- What is on its way out. That a stream of version Two begins with a greeting, and all else here, is this project's own.
use Rattle.std.specs.Prelude.{◌≡◌, ℕ, ◌-◌, ◌≤◌, Bool, true, false, List, ◌++◌, length, take, drop}
use Rattle.lc_frame.specs.declared.version.Version.{Version}
use Rattle.lc_frame.specs.declared.frame.Frame.{Frame}
use Rattle.lc_frame.specs.Version.{greeting}
use Rattle.lc_frame.specs.Encoding.{encoding}

-- how many bytes it has room for, those that are to go out, and how many more have room behind them
pub record EncoderState : Type 0 where
  pub capacity : ℕ
  pub pending : List ℕ
  pub room : ℕ

-- at the start of a stream its greeting is pending
abbrev pub new_encoder : Version → ℕ → EncoderState
new_encoder version capacity = record { capacity = capacity; pending = greeting version; room = capacity - length (greeting version) }

-- what a buffer of so many bytes keeps, for which so many have memory and whose bytes before the start went out: where nothing is pending all room is free
pub record IsEncoderBuffer (capacity len allocated start : ℕ) : Type 0 where
  pub within : start ≤ len
  pub most : len ≤ capacity
  pub room : capacity ≤ allocated
  pub all : start ≡ len → len ≡ 0

-- the first so many bytes went out; no room is lost by that
pub record IsAdvanced (count : ℕ) (old new : EncoderState) : Type 0 where
  pub is : new ≡ record old { pending = drop count old.pending; room = new.room }
  pub room : old.room ≤ new.room

-- the first so many bytes are left; no room is lost by that
pub record IsCutTo (count : ℕ) (old new : EncoderState) : Type 0 where
  pub is : new ≡ record old { pending = take count old.pending; room = new.room }
  pub room : old.room ≤ new.room

-- the bytes of a frame were put last where they had room, else nothing changed
abbrev pub IsAppended : Version → Frame → Bool → EncoderState → EncoderState → Type 0
IsAppended version frame true old new = new ≡ record old { pending = old.pending ++ encoding version frame; room = old.room - length (encoding version frame) }
IsAppended version frame false old new = new ≡ old
