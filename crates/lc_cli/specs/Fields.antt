-- How a script is read, field by field. A device of the proofs.
use Rattle.std.specs.Prelude.{◌≡◌, ℕ, ◌⊎◌, ◌<◌, Bool, true, List, [], ◌∷◌, ◌++◌, MatchBool, codes, Option, None, Some, slice_index}
use Rattle.std.specs.List.{AllByRecursion}
use Rattle.lc_world.specs.declared.event.Event.{Event}
use Rattle.lc_cli.specs.declared.script.Fields.{Fields}
use Rattle.lc_cli.specs.declared.words.Word.{Word}
use Rattle.lc_cli.specs.declared.words.Word.TheVariants.{Absolve, Arrive, Deliver, Finish, Honour, Issue, LimitReceiving, LimitSending, Plead, Send, Take}
use Rattle.lc_cli.specs.Script.{IsLine, Lines, text_of, events_of}

-- none of the first so many bytes is this one
abbrev pub NoneBelow : ℕ → List ℕ → ℕ → Type 0
NoneBelow byte bytes n = (k : ℕ) → k < n → ¬ (slice_index bytes k ≡ byte)

-- a text stands at the front, and then its line ends, or the script does
abbrev pub EndsLine : List ℕ → List ℕ → List ℕ → Type 0
EndsLine old text rest = (old ≡ text ++ (10 ∷ rest)) ⊎ ((old ≡ text) × (rest ≡ []))

-- a text stands at the front, and then a space where the line has more, or else its end
abbrev pub IsCut : List ℕ → List ℕ → Bool → List ℕ → Type 0
IsCut old text more rest = MatchBool more (old ≡ text ++ (32 ∷ rest)) (EndsLine old text rest)

-- a text was read, of one field or of several
pub record Reads (old new : Fields) (text : List ℕ) : Type 0 where
  pub had : old.has_more ≡ true
  pub cut : IsCut old.rest.now text new.has_more new.rest.now

-- of a script the rest is not read yet, and these are the events before it
pub record IsReadTo (script rest : List ℕ) (events : List Event) : Type 0 where
  pub lines : Lines
  pub each : AllByRecursion (λ l. IsLine l.0 l.1) lines
  pub text : (script ≡ text_of lines ++ rest) ⊎ ((rest ≡ []) × (script ++ (10 ∷ []) ≡ text_of lines))
  pub are : events ≡ events_of lines

-- the event of a line, where it has one
abbrev pub added : Option Event → List Event
added None = []
added (Some event) = event ∷ []

-- the text of a word
abbrev pub word_text : Word → List ℕ
word_text Absolve = codes "absolve"
word_text Arrive = codes "arrive"
word_text Deliver = codes "deliver"
word_text Finish = codes "finish"
word_text Honour = codes "honour"
word_text Issue = codes "issue"
word_text LimitReceiving = codes "limit-receiving"
word_text LimitSending = codes "limit-sending"
word_text Plead = codes "plead"
word_text Send = codes "send"
word_text Take = codes "take"
