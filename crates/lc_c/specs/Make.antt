-- What makes a peer or a session behind a handle, and why there is none. That the format has two versions is this project's own, and so are all bounds.
use Rattle.std.specs.Prelude.{◌≡◌, ◌==◌, ◌⊎◌, Bool, true, false, ℕ, if◌then◌else◌, Option, Some, None}
use Rattle.std.specs.Option.{option_map}
use Rattle.lc_frame.specs.declared.version.Version.{Version}
use Rattle.lc_frame.specs.declared.version.Version.TheVariants.{One, Two}
use Rattle.lc_frame.specs.Channel.{number_of}
use Rattle.lc_frame.specs.Version.{greeting}
use Rattle.lc_frame.specs.Stored.{nothing_stored}
use Rattle.lc_book.specs.declared.fault.Refusal.TheVariants as refusals
use Rattle.lc_peer.specs.declared.config.Config.{Config}
use Rattle.lc_peer.specs.declared.config.PeerFault.{PeerFault}
use Rattle.lc_peer.specs.declared.config.PeerFault.TheVariants.{BadCapacity, BadSlots, OutOfMemory}
use Rattle.lc_peer.specs.Config.{new_peer}
use Rattle.lc_c.specs.declared.answer.LcmuxAnswer.{LcmuxAnswer}
use Rattle.lc_c.specs.declared.make.LcmuxConfig.{LcmuxConfig}
use Rattle.lc_c.specs.Side.{Side}
use Rattle.lc_c.specs.Answers.{done, only, has_peer, bad_version, bad_capacity, bad_slots, refusal_answer}

-- why there is no peer; the number that goes with a bad capacity is its channel's
abbrev pub fault_answer : PeerFault → LcmuxAnswer
fault_answer (BadCapacity c capacity) = record { code = bad_capacity; number = number_of c }
fault_answer (BadSlots slots) = only bad_slots
fault_answer OutOfMemory = refusal_answer refusals.OutOfMemory

-- the version of a number: 1 is One, 2 is Two, and there is no other
abbrev pub version_at : ℕ → Option Version
version_at number = if number == 1 then Some One else if number == 2 then Some Two else None

-- the configuration of a peer, by the one that C hands in and the version of its number
abbrev pub config_in : LcmuxConfig → Version → Config
config_in config version = record { version = version; capacities = config.capacities; slots = config.slots }

-- nothing has happened, and no byte came or went: the greeting of the stream is to go out
abbrev pub new_c_peer : Config → Side
new_c_peer config = record { peer = new_peer config; intake = record { held = nothing_stored; kept = 0; stop = None; rings = config.capacities }; taken = 0; pending = record { bytes = greeting config.version } }

-- what the making of a peer answers, by what is wrong with its configuration
abbrev pub fault_or_done : Option PeerFault → LcmuxAnswer
fault_or_done None = only done
fault_or_done (Some fault) = fault_answer fault

-- the configuration that C hands in, where there is a version of its number
abbrev pub config_of : LcmuxConfig → Option Config
config_of config = option_map (config_in config) (version_at config.version)

-- the same, by the configuration, where there is a version of the number; else that there is none
abbrev pub bounds_answer : (Config → Option PeerFault) → Option Config → LcmuxAnswer
bounds_answer fault None = only bad_version
bounds_answer fault (Some config) = fault_or_done (fault config)

-- what the making answers where there is memory, by what is wrong with a configuration: a full handle comes first, then the version, then the bounds
abbrev pub make_answer : {A : Type 0} → (Config → Option PeerFault) → Option A → LcmuxConfig → LcmuxAnswer
make_answer fault (Some side) config = only has_peer
make_answer fault None config = bounds_answer fault (config_of config)

-- what the making answers: that, or want of memory where nothing else is wrong
abbrev pub MakeAnswers : {A : Type 0} → (Config → Option PeerFault) → Option A → LcmuxConfig → LcmuxAnswer → Type 0
MakeAnswers fault held config answer = (answer ≡ make_answer fault held config) ⊎ ((make_answer fault held config ≡ only done) × (answer ≡ fault_answer OutOfMemory))

-- what stands behind the handle then: a new one of the configuration where it was made, else what stood there
abbrev pub made : {A : Type 0} → (Config → A) → Bool → Option A → LcmuxConfig → Option A
made new true held config = option_map new (config_of config)
made new false held config = held
