-- What two sessions in one process exchange: through which rings, how many messages, and which. It is this project's own.
use Rattle.std.specs.Int.{w32, to_be_bytes}
use Rattle.std.specs.Prelude.{ℕ, zero, suc, ◌+◌, ◌-◌, ◌%◌, ◌≤◌, List, [], ◌∷◌, ◌++◌, replicate}
use Rattle.lc_frame.specs.declared.channel.Channel.{Channel}
use Rattle.lc_frame.specs.declared.version.Version.{Version}
use Rattle.lc_frame.specs.declared.version.Version.TheVariants.{One}
use Rattle.lc_frame.specs.Bounds.{IsCapacity, IsSlots}
use Rattle.lc_frame.specs.Channel.{channel_count, number_of}
use Rattle.lc_frame.specs.Kind.{max_body}
use Rattle.lc_peer.specs.declared.config.Config.{Config}
use Rattle.lc_loopback.specs.declared.plan.Plan.{Plan}

-- a plan that can be played: rings and slots as sessions may have them, messages that begin with their number, and the longest, of which every length but one is a byte shorter, fits a ring and a stream of either version
pub record IsPlan (p : Plan) : Type 0 where
  pub ring : IsCapacity p.capacity
  pub queue : IsSlots p.slots
  pub numbered : 4 ≤ p.shortest
  pub lengths : 1 ≤ p.lengths
  pub fits : p.shortest + p.lengths ≤ p.capacity + 1
  pub short : p.shortest + p.lengths ≤ max_body One + 1

-- the message of a channel's number: the number, highest byte first, and behind it bytes that each are the channel's number
abbrev pub message : Plan → Channel → ℕ → List ℕ
message p c number = to_be_bytes w32 number ++ replicate (p.shortest - 4 + number % p.lengths) (number_of c)

-- the first so many messages that are due on a channel, each once and in order
abbrev pub due_first : Plan → Channel → ℕ → List (List ℕ)
due_first p c zero = []
due_first p c (suc n) = due_first p c n ++ message p c n ∷ []

-- all messages that are due on a channel
abbrev pub due : Plan → Channel → List (List ℕ)
due p c = due_first p c p.messages

-- how a session of this version is made
abbrev pub config_of : Plan → Version → Config
config_of p version = record { version = version; capacities = replicate channel_count p.capacity; slots = p.slots }

-- so many messages of 4 to 16 bytes through rings of 32, with four slots, so that ends wait for both, and each issued anew as it is taken
abbrev pub small_plan : ℕ → Plan
small_plan messages = record { capacity = 32; slots = 4; messages = messages; shortest = 4; lengths = 13; issue_from = 1 }
