-- A script, line by line and field by field.
use Rattle.std.proofs.Common.{◌≡◌, ℕ, ◌⊎◌, inl, inr, ◌+◌, ◌-◌, ◌<◌, ◌≤◌, List, [], ◌∷◌, ◌++◌, Bool, true, false, Option, Some, None, length, take, drop, slice_index, refl, sym, ap, subst, ◌∙◌, append-nil, append_assoc, arith, drop-cons, take-append-drop, add-one, Result, Ok, Err, IfOk, OnOk}
use Rattle.std.specs.List.{zip}
use Rattle.std.specs.Prelude.{Contains}
use Rattle.std.proofs.lemmas.List.Concat.{flat_map-append}
use Rattle.std.proofs.lemmas.List.Elements.{filter_map-append}
use Rattle.std.proofs.lemmas.List.{length-append, length-take, nil_from_length, get_or-take, get_or_default}
use Rattle.std.specs.Prelude.{IfSome, zero, suc}
use Rattle.std.specs.Fmt.{decimal}
use Rattle.std.proofs.lemmas.Fmt.{decimal_digit}
use Rattle.lc_frame.specs.declared.channel.Channel.{Channel}
use Rattle.lc_frame.specs.Channel.{number_of}
use Rattle.lc_world.specs.declared.event.Answer.{Answer}
use Rattle.lc_world.specs.declared.event.Event.{Event}
use Rattle.lc_world.specs.State.{Versions}
use Rattle.lc_world.specs.Histories.{IsHistory}
use Rattle.lc_cli.specs.Script.{IsSkipped, IsLine, Lines, text_of, events_of, IsScript, IsAScript}
use Rattle.lc_cli.specs.Fields.{NoneBelow, EndsLine, IsCut, Reads, IsReadTo, added}
use Rattle.lc_cli.specs.declared.script.Fields.{Fields}
use Rattle.lc_cli.proofs.Listings.{each_append}

-- two fields with a space between are one text
pub cut_more : (old mid new first later : List ℕ) (more : Bool) → IsCut old first true mid → IsCut mid later more new → IsCut old (first ++ (32 ∷ later)) more new
cut_more old mid new first later true p q = p ∙ ap (λ (l : List ℕ). first ++ (32 ∷ l)) q ∙ sym (append_assoc first (32 ∷ later) (32 ∷ new))
cut_more old mid new first later false p (inl q) = inl (p ∙ ap (λ (l : List ℕ). first ++ (32 ∷ l)) q ∙ sym (append_assoc first (32 ∷ later) (10 ∷ new)))
cut_more old mid new first later false p (inr (q, empty)) = inr (p ∙ ap (λ (l : List ℕ). first ++ (32 ∷ l)) q, empty)

-- one text is read, and then another of the same line
pub reads_more : (old mid new : Fields) (first later : List ℕ) → Reads old mid first → Reads mid new later → Reads old new (first ++ (32 ∷ later))
reads_more old mid new first later p q = record {
  had = p.had;
  cut = cut_more old.rest.now mid.rest.now new.rest.now first later new.has_more (subst (λ (more : Bool). IsCut old.rest.now first more mid.rest.now) q.had p.cut) q.cut;
}

-- a line is shorter than what it ends
pub ends_shorter : (old line rest : List ℕ) → EndsLine old line rest → 0 < length old → length rest < length old
ends_shorter old line rest (inl e) some = omega (arith, ap length e, length-append line (10 ∷ rest))
ends_shorter old line rest (inr (e, empty)) some = omega (arith, ap length empty, some)

-- nothing is read yet
pub read_nothing : (script : List ℕ) → IsReadTo script script []
read_nothing script = record { lines = []; each = tt; text = inl refl; are = refl }

events_of_one : (line : List ℕ) (event : Option Event) → events_of ((line, event) ∷ []) ≡ added event
events_of_one line None = refl
events_of_one line (Some event) = refl

text_of_one : (line : List ℕ) (event : Option Event) → text_of ((line, event) ∷ []) ≡ line ++ (10 ∷ [])
text_of_one line event = append-nil (line ++ (10 ∷ []))

text_more : (lines : Lines) (line : List ℕ) (event : Option Event) → text_of (lines ++ ((line, event) ∷ [])) ≡ text_of lines ++ (line ++ (10 ∷ []))
text_more lines line event = flat_map-append (λ l. l.0 ++ (10 ∷ [])) lines ((line, event) ∷ []) ∙ ap (λ (t : List ℕ). text_of lines ++ t) (text_of_one line event)

ended : (front line : List ℕ) (rest : List ℕ) → (front ++ (line ++ (10 ∷ []))) ++ rest ≡ front ++ (line ++ (10 ∷ rest))
ended front line rest = append_assoc front (line ++ (10 ∷ [])) rest ∙ ap (λ (l : List ℕ). front ++ l) (append_assoc line (10 ∷ []) rest)

-- one line more is read
pub read_more : (script rest others line : List ℕ) (event : Option Event) (events events' : List Event) → IsReadTo script rest events → 0 < length rest
    → IsLine line event → EndsLine rest line others → events' ≡ events ++ added event → IsReadTo script others events'
read_more script rest others line event events events' r some is ends are = record {
  lines = r.lines ++ ((line, event) ∷ []);
  each = each_append (λ l. IsLine l.0 l.1) r.lines ((line, event) ∷ []) r.each (is, tt);
  are = are ∙ ap (λ (es : List Event). es ++ added event) r.are ∙ ap (λ (es : List Event). events_of r.lines ++ es) (sym (events_of_one line event)) ∙ sym (filter_map-append (λ l. l.1) r.lines ((line, event) ∷ []));
  text = text r.text ends;
}
  where
    text : (script ≡ text_of r.lines ++ rest) ⊎ ((rest ≡ []) × (script ++ (10 ∷ []) ≡ text_of r.lines)) → EndsLine rest line others
        → (script ≡ text_of (r.lines ++ ((line, event) ∷ [])) ++ others) ⊎ ((others ≡ []) × (script ++ (10 ∷ []) ≡ text_of (r.lines ++ ((line, event) ∷ []))))
    text (inl whole) (inl e) = inl (whole ∙ ap (λ (l : List ℕ). text_of r.lines ++ l) e ∙ sym (ended (text_of r.lines) line others) ∙ ap (λ (l : List ℕ). l ++ others) (sym (text_more r.lines line event)))
    text (inl whole) (inr (e, empty)) = inr (empty, ap (λ (l : List ℕ). l ++ (10 ∷ [])) (whole ∙ ap (λ (l : List ℕ). text_of r.lines ++ l) e) ∙ append_assoc (text_of r.lines) line (10 ∷ []) ∙ sym (text_more r.lines line event))
    text (inr (empty, whole)) ends = absurd (omega (arith, some, ap length empty))

-- all is read
pub read_whole : (script rest : List ℕ) (events : List Event) → IsReadTo script rest events → length rest ≡ 0 → IsScript script events
read_whole script rest events r none = record { lines = r.lines; each = r.each; are = r.are; text = text r.text }
  where
    text : (script ≡ text_of r.lines ++ rest) ⊎ ((rest ≡ []) × (script ++ (10 ∷ []) ≡ text_of r.lines)) → (script ≡ text_of r.lines) ⊎ (script ++ (10 ∷ []) ≡ text_of r.lines)
    text (inl whole) = inl (whole ∙ ap (λ (l : List ℕ). text_of r.lines ++ l) (nil_from_length rest none) ∙ append-nil (text_of r.lines))
    text (inr (empty, whole)) = inr whole

no_feed : (comment : List ℕ) → NoneBelow 10 comment (length comment) → ¬ (Contains comment 10)
no_feed comment none (k, less, is) = none k less (get_or_default comment k 0 10 less ∙ is)

-- a comment up to its line feed is a line that is skipped
comment_line : (script : List ℕ) (k : ℕ) → slice_index script 0 ≡ 35 → k < length script → slice_index script k ≡ 10 → NoneBelow 10 script k
    → (line : List ℕ) × (IsSkipped line × EndsLine script line (drop (suc k) script))
comment_line [] k first less feed none = absurd (omega (arith, less))
comment_line (x ∷ xs) zero first less feed none = absurd (omega (arith, first, feed))
comment_line (x ∷ xs) (suc j) first less feed none =
    let inside : NoneBelow 10 (take j xs) (length (take j xs)) = λ k lt same.
    let short : k < j = omega (arith, lt, length-take j xs) in
    none (suc k) (omega (arith, short)) (sym (get_or-take j xs k 0 short) ∙ same) in
    let rest : drop j xs ≡ 10 ∷ drop (suc j) xs = rw (sym feed) (drop-cons xs j 0 (omega (arith, less))) in
    (x ∷ take j xs, (inr (take j xs, (ap (λ (b : ℕ). b ∷ take j xs) first, no_feed (take j xs) inside)), inl (ap (λ (l : List ℕ). x ∷ l) (sym (take-append-drop j xs) ∙ ap (λ (l : List ℕ). take j xs ++ l) rest))))

pub comment_ends : (script : List ℕ) (k : ℕ) → slice_index script 0 ≡ 35 → k < length script → slice_index script k ≡ 10 → NoneBelow 10 script k
    → (line : List ℕ) × (IsSkipped line × EndsLine script line (drop (k + 1) script))
comment_ends script k first less feed none = rw (add-one k) (comment_line script k first less feed none)

-- and so is one that ends with the script
pub comment_lasts : (script : List ℕ) → slice_index script 0 ≡ 35 → NoneBelow 10 script (length script) → (line : List ℕ) × (IsSkipped line × EndsLine script line [])
comment_lasts [] first none = absurd (omega (arith, first))
comment_lasts (x ∷ xs) first none =
    let inside : NoneBelow 10 xs (length xs) = λ k less. none (suc k) (omega (arith, less)) in
    (x ∷ xs, (inr (xs, (ap (λ (b : ℕ). b ∷ xs) first, no_feed xs inside)), inr (refl, refl)))

-- a digit is the text of a channel's number
pub channel_digit : (field : List ℕ) (found : Option Channel) → length field ≡ 1 → 48 ≤ slice_index field 0 → slice_index field 0 < 58
    → IfSome found (λ c. number_of c ≡ slice_index field 0 - 48) → IfSome found (λ c. field ≡ decimal (number_of c))
channel_digit field None one least most is = tt
channel_digit [] (Some c) one least most is = absurd (omega (arith, one))
channel_digit (d ∷ e ∷ ds) (Some c) one least most is = absurd (omega (arith, one))
channel_digit (d ∷ []) (Some c) one least most is =
    let digit : d ≡ 48 + number_of c = omega (arith, is, least) in
    ap (λ (b : ℕ). b ∷ []) digit ∙ sym (decimal_digit (number_of c) (omega (arith, is, most)))

-- what was read of an input is a script
pub is_script : {V E : Type 0} (items : V → List Event) (r : Result V E) (known : Option (List ℕ)) (text script : List ℕ) → script ≡ text → IfSome known (λ all. text ≡ all)
    → IfOk r (λ v. IsScript script (items v)) → OnOk r (IfSome known IsAScript)
is_script items (Err e) known text script same all is = tt
is_script items (Ok v) None text script same all is = tt
is_script items (Ok v) (Some bytes) text script same all is = (items v, subst (λ (l : List ℕ). IsScript l (items v)) (same ∙ all) is)

-- what is so once something was done
pub once_done : {A E P Q : Type 0} (r : Result A E) → (P → Q) → OnOk r P → OnOk r Q
once_done (Ok a) f p = f p
once_done (Err e) f p = tt

-- the same history
pub same_history : (capacity : ℕ) (versions : Versions) (events events' : List Event) (answers answers' : List Answer) → events ≡ events' → answers ≡ answers'
    → IsHistory capacity versions (zip events answers) → IsHistory capacity versions (zip events' answers')
same_history capacity versions events events' answers answers' e a legal =
    subst (λ (es : List Event). IsHistory capacity versions (zip es answers')) e (subst (λ (xs : List Answer). IsHistory capacity versions (zip events xs)) a legal)
