-- A number that is out of the range of its kind, as a user learns it after F2 and F3. That they learn it is this project's own.
use Rattle.std.specs.Prelude.{◌≡◌, ℕ, ◌/◌, ◌%◌, ◌++◌, true, List, [], ◌∷◌, length, take, Option, Some, None, nat_lt, if◌then◌else◌}
use Rattle.lc_frame.specs.declared.version.Version.{Version}
use Rattle.lc_frame.specs.declared.channel.Channel.{Channel}
use Rattle.lc_frame.specs.declared.kind.Kind.{Kind}
use Rattle.lc_frame.specs.declared.out_of_range.OutOfRange.{OutOfRange}
use Rattle.lc_frame.specs.Channel.{channel_at}
use Rattle.lc_frame.specs.Kind.{kind_at, has, width_of, width_len, IsInRange}
use Rattle.lc_frame.specs.Encoding.{header}
use Rattle.lc_frame.specs.Scan.{number_in}
use Rattle.lc_frame.specs.Stored.{Stored}

-- the bytes begin with a tag of the version and, behind it, with this number, which is out of range
pub record NumberLies (v : Version) (o : OutOfRange) (bytes : List ℕ) : Type 0 where
  pub known : has v o.kind ≡ true
  pub rest : List ℕ
  pub is : bytes ≡ header v o.kind o.channel o.number ++ rest
  pub out : ¬ IsInRange v o.kind o.number

-- the same in the version that is known; where none is known, no number lies there
abbrev pub NumberLiesIn : Option Version → OutOfRange → List ℕ → Type 0
NumberLiesIn None o bytes = ⊥
NumberLiesIn (Some v) o bytes = NumberLies v o bytes

-- this number lies at the front of what is stored, and is out of range
abbrev pub HasNumber : OutOfRange → Stored → Type 0
HasNumber o h = NumberLiesIn h.version o h.bytes

-- the number behind a tag of this kind and channel, where all its bytes are there
unfoldable pub number_behind : Version → Kind → Channel → List ℕ → Option OutOfRange
number_behind v kind c rest =
    let width = width_len (width_of v kind) in
    if nat_lt (length rest) width then None
    else Some (record { kind = kind; channel = c; number = number_in (width_of v kind) (take width rest) })

-- the same by the kind and the channel that a first byte names
abbrev pub number_tagged : Version → Option Kind → Option Channel → List ℕ → Option OutOfRange
number_tagged v None c rest = None
number_tagged v (Some kind) None rest = None
number_tagged v (Some kind) (Some c) rest = number_behind v kind c rest

-- the tag and the number in front of some bytes
abbrev pub number_in_front : Version → List ℕ → Option OutOfRange
number_in_front v [] = None
number_in_front v (first ∷ rest) = number_tagged v (kind_at (first / 16)) (channel_at (first % 16)) rest
