-- Which lines a script has, and which events they write. These texts are this project's own.
use Rattle.std.specs.Prelude.{◌≡◌, ℕ, ◌⊎◌, List, [], ◌∷◌, ◌++◌, codes, Contains, Ok, Option, None, Some}
use Rattle.std.specs.List.{flat_map, filter_map, AllByRecursion}
use Rattle.std.specs.Fmt.{decimal}
use Rattle.hex.specs.Hex.{decode_of}
use Rattle.lc_frame.specs.declared.channel.Channel.{Channel}
use Rattle.lc_frame.specs.Channel.{number_of}
use Rattle.lc_world.specs.declared.event.Side.{Side}
use Rattle.lc_world.specs.declared.event.Side.TheVariants.{A, B}
use Rattle.lc_world.specs.declared.event.Act.{Act}
use Rattle.lc_world.specs.declared.event.Act.TheVariants.{Send, Issue, Plead, Absolve, Honour, LimitSending, LimitReceiving, Finish, Arrive, Deliver, Take}
use Rattle.lc_world.specs.declared.event.Event.{Event}

-- the name of a side
abbrev pub side_text : Side → List ℕ
side_text A = codes "A"
side_text B = codes "B"

-- how a body is written: an empty one as a dash, and any other by its digits, two for each byte
abbrev pub WritesBody : List ℕ → List ℕ → Type 0
WritesBody body text = ((body ≡ []) × (text ≡ codes "-")) ⊎ ((¬ (text ≡ [])) × (decode_of text ≡ Ok body))

-- a word and a channel, with a space between
abbrev pub on_channel : List ℕ → Channel → List ℕ
on_channel word c = word ++ (32 ∷ decimal (number_of c))

-- a word, a channel and another field
abbrev pub with_field : List ℕ → Channel → List ℕ → List ℕ
with_field word c field = word ++ (32 ∷ (decimal (number_of c) ++ (32 ∷ field)))

-- how an act is written: a message by any text of its body, and any other in one way
abbrev pub WritesAct : Act → List ℕ → Type 0
WritesAct (Send c body) text = (field : List ℕ) × (WritesBody body field × (text ≡ with_field (codes "send") c field))
WritesAct (Issue c amount) text = text ≡ with_field (codes "issue") c (decimal amount)
WritesAct (Plead c target) text = text ≡ with_field (codes "plead") c (decimal target)
WritesAct (Absolve c amount) text = text ≡ with_field (codes "absolve") c (decimal amount)
WritesAct (Honour c) text = text ≡ on_channel (codes "honour") c
WritesAct (LimitSending c bound) text = text ≡ with_field (codes "limit-sending") c (decimal bound)
WritesAct (LimitReceiving c bound) text = text ≡ with_field (codes "limit-receiving") c (decimal bound)
WritesAct (Finish c) text = text ≡ on_channel (codes "finish") c
WritesAct Arrive text = text ≡ codes "arrive"
WritesAct (Deliver count) text = text ≡ codes "deliver" ++ (32 ∷ decimal count)
WritesAct (Take c) text = text ≡ on_channel (codes "take") c

-- the line of an event: its side and its act
abbrev pub WritesEvent : Event → List ℕ → Type 0
WritesEvent event line = (act : List ℕ) × (WritesAct event.act act × (line ≡ side_text event.side ++ (32 ∷ act)))

-- a line that is skipped: an empty one, or a comment
abbrev pub IsSkipped : List ℕ → Type 0
IsSkipped line = (line ≡ []) ⊎ ((comment : List ℕ) × ((line ≡ 35 ∷ comment) × (¬ (Contains comment 10))))

-- a line writes this event, or none
abbrev pub IsLine : List ℕ → Option Event → Type 0
IsLine line None = IsSkipped line
IsLine line (Some event) = WritesEvent event line

-- lines without their line feeds, each with the event that it writes, if it writes one
abbrev pub Lines : Type 0
Lines = List (List ℕ × Option Event)

-- the text of lines, each ended by a line feed
abbrev pub text_of : Lines → List ℕ
text_of lines = flat_map (λ l. l.0 ++ (10 ∷ [])) lines

-- the events of lines, in order
abbrev pub events_of : Lines → List Event
events_of lines = filter_map (λ l. l.1) lines

-- a script of these events: the text of its lines, whose last line feed it may lack
pub record IsScript (script : List ℕ) (events : List Event) : Type 0 where
  pub lines : Lines
  pub each : AllByRecursion (λ l. IsLine l.0 l.1) lines
  pub text : (script ≡ text_of lines) ⊎ (script ++ (10 ∷ []) ≡ text_of lines)
  pub are : events ≡ events_of lines

-- these bytes are a script
abbrev pub IsAScript : List ℕ → Type 0
IsAScript script = (events : List Event) × IsScript script events
