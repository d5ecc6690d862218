-- The frames of what is held, and its rest, are unique, and those of a front are the first of them.
use Rattle.std.proofs.Common.{◌≡◌, ℕ, Option, Some, None, List, [], ◌∷◌, ◌++◌, refl, sym, ap, ap₂, subst, ◌∙◌, append_assoc, arith}
use Rattle.std.specs.List.{flat_map, AllByRecursion}
use Rattle.std.proofs.lemmas.List.{append_cancel_left, append-nil}
use Rattle.std.proofs.lemmas.List.Concat.{flat_map-cons}
use Rattle.lc_frame.specs.declared.version.Version.{Version}
use Rattle.lc_frame.specs.declared.version.Version.TheVariants.{Two}
use Rattle.lc_frame.specs.declared.frame.Frame.{Frame}
use Rattle.lc_frame.specs.Frame.{IsValid}
use Rattle.lc_frame.specs.declared.frame_fault.FrameFault.{FrameFault}
use Rattle.lc_frame.specs.Encoding.{encoding, FrameStands, FaultStands}
use Rattle.lc_frame.specs.Version.{greeting, IsGreetingPart, GreetingBreaks}
use Rattle.lc_frame.specs.Stored.{IsValidIn, encoding_in}
use Rattle.lc_frame.specs.Splits.{Splits, Begins}
use Rattle.lc_frame.proofs.Fronts.{one_frame, frame_no_fault, fault_goes_on, nothing_yet}

-- what is left behind the first frame
pub behind : (v : Version) (f : Frame) (fs : List Frame) (rest bytes : List ℕ) → bytes ≡ flat_map (encoding v) (f ∷ fs) ++ rest → bytes ≡ encoding v f ++ (flat_map (encoding v) fs ++ rest)
behind v f fs rest bytes e = e ∙ ap (λ (x : List ℕ). x ++ rest) (flat_map-cons (encoding v) f fs) ∙ append_assoc (encoding v f) (flat_map (encoding v) fs) rest

first_stands : (v : Version) (f : Frame) (fs : List Frame) (rest bytes : List ℕ) → IsValid v f → bytes ≡ flat_map (encoding v) (f ∷ fs) ++ rest → FrameStands v f bytes
first_stands v f fs rest bytes valid e = record { valid = valid; rest = flat_map (encoding v) fs ++ rest; is = behind v f fs rest bytes e }

split_in_one : (v : Version) (fs gs : List Frame) (bytes r s : List ℕ) → Splits (Some v) bytes fs r → Splits (Some v) bytes gs s → (fs ≡ gs) × (r ≡ s)
split_in_one v [] [] bytes r s p q = (refl, sym p.whole ∙ q.whole)
split_in_one v [] (g ∷ gs) bytes r s p q = absurd (p.partial g (first_stands v g gs s r q.each.0 (sym p.whole ∙ q.whole)))
split_in_one v (f ∷ fs) [] bytes r s p q = absurd (q.partial f (first_stands v f fs r s p.each.0 (sym q.whole ∙ p.whole)))
split_in_one v (f ∷ fs) (g ∷ gs) bytes r s p q =
    let same : f ≡ g = one_frame v f g bytes (first_stands v f fs r bytes p.each.0 p.whole) (first_stands v g gs s bytes q.each.0 q.whole) in
    let left : encoding v f ++ (flat_map (encoding v) fs ++ r) ≡ encoding v f ++ (flat_map (encoding v) gs ++ s) = sym (behind v f fs r bytes p.whole) ∙ behind v g gs s bytes q.whole ∙ ap (λ (h : Frame). encoding v h ++ (flat_map (encoding v) gs ++ s)) (sym same) in
    let rest = append_cancel_left (encoding v f) (flat_map (encoding v) fs ++ r) (flat_map (encoding v) gs ++ s) left in
    let others = split_in_one v fs gs (flat_map (encoding v) fs ++ r) r s (record { whole = refl; each = p.each.1; partial = p.partial }) (record { whole = rest; each = q.each.1; partial = q.partial }) in
    (ap₂ ◌∷◌ same others.0, others.1)

-- what begins the bytes of valid frames has no fault at its front
no_fault_in : (v : Version) (fs : List Frame) (e : FrameFault) (rest more : List ℕ) → AllByRecursion (IsValid v) fs → flat_map (encoding v) fs ≡ rest ++ more → FaultStands v e rest → ⊥
no_fault_in v [] e rest more each w s = (nothing_yet v).now_open.no_fault e (subst (FaultStands v e) (sym w) (fault_goes_on v e rest more s))
no_fault_in v (f ∷ fs) e rest more each w s =
    frame_no_fault v f e (rest ++ more) (record { valid = each.0; rest = flat_map (encoding v) fs; is = sym w ∙ flat_map-cons (encoding v) f fs }) (fault_goes_on v e rest more s)

nil_cons : {x : ℕ} {xs : List ℕ} → [] ≡ x ∷ xs → ⊥
nil_cons e = cc

front_in_one : (v : Version) (fs gs : List Frame) (bytes more rest : List ℕ) → AllByRecursion (IsValid v) fs → flat_map (encoding v) fs ≡ bytes ++ more → Splits (Some v) bytes gs rest → Begins (Some v) fs gs rest
front_in_one v fs [] bytes more rest each w p = record { others = fs; is = refl; no_fault = λ e s. no_fault_in v fs e bytes more each w (subst (FaultStands v e) (sym p.whole) s) }
front_in_one v [] (g ∷ gs) bytes more rest each w p = absurd (nil_cons (w ∙ ap (λ (x : List ℕ). x ++ more) (behind v g gs rest bytes p.whole)))
front_in_one v (f ∷ fs) (g ∷ gs) bytes more rest each w p =
    let x : List ℕ = flat_map (encoding v) gs ++ rest in
    let parted : encoding v f ++ flat_map (encoding v) fs ≡ encoding v g ++ (x ++ more) = sym (flat_map-cons (encoding v) f fs) ∙ w ∙ ap (λ (y : List ℕ). y ++ more) (behind v g gs rest bytes p.whole) ∙ append_assoc (encoding v g) x more in
    let same : f ≡ g = one_frame v f g (encoding v f ++ flat_map (encoding v) fs) (record { valid = each.0; rest = flat_map (encoding v) fs; is = refl }) (record { valid = p.each.0; rest = x ++ more; is = parted }) in
    let left : flat_map (encoding v) fs ≡ x ++ more = append_cancel_left (encoding v f) (flat_map (encoding v) fs) (x ++ more) (parted ∙ ap (λ (h : Frame). encoding v h ++ (x ++ more)) (sym same)) in
    let others = front_in_one v fs gs x more rest each.1 left (record { whole = refl; each = p.each.1; partial = p.partial }) in
    record { others = others.others; is = ap₂ ◌∷◌ same others.is; no_fault = others.no_fault }

-- ---- also where no version is known: there are no frames then

none_there : (fs : List Frame) → AllByRecursion (IsValidIn None) fs → fs ≡ []
none_there [] each = refl
none_there (f ∷ fs) each = absurd each.0

rest_alone : (fs : List Frame) (bytes r : List ℕ) → Splits None bytes fs r → bytes ≡ r
rest_alone [] bytes r p = p.whole
rest_alone (f ∷ fs) bytes r p = absurd p.each.0

pub split_law : (version : Option Version) (fs gs : List Frame) (bytes r s : List ℕ) → Splits version bytes fs r → Splits version bytes gs s → (fs ≡ gs) × (r ≡ s)
split_law None fs gs bytes r s p q = (none_there fs p.each ∙ sym (none_there gs q.each), sym (rest_alone fs bytes r p) ∙ rest_alone gs bytes s q)
split_law (Some v) fs gs bytes r s p q = split_in_one v fs gs bytes r s p q

nil_of_front : (bytes more : List ℕ) → [] ≡ bytes ++ more → bytes ≡ []
nil_of_front [] more e = refl
nil_of_front (b ∷ bytes) more e = absurd (nil_cons e)

part_of_nothing : IsGreetingPart []
part_of_nothing = record { rest = greeting Two; some = omega arith; is = refl }

unbroken : (bytes : List ℕ) → bytes ≡ [] → GreetingBreaks bytes → ⊥
unbroken bytes e s = s.no_part (subst IsGreetingPart (sym e) part_of_nothing)

pub front_law : (version : Option Version) (fs gs : List Frame) (bytes more rest : List ℕ) → AllByRecursion (IsValidIn version) fs → flat_map (encoding_in version) fs ≡ bytes ++ more → Splits version bytes gs rest → Begins version fs gs rest
front_law (Some v) fs gs bytes more rest each w p = front_in_one v fs gs bytes more rest each w p
front_law None [] gs bytes more rest each w p =
    let none = nil_of_front bytes more w in
    record { others = []; is = sym (none_there gs p.each) ∙ sym (append-nil gs); no_fault = λ e s. unbroken rest (sym (rest_alone gs bytes rest p) ∙ none) s.1 }
front_law None (f ∷ fs) gs bytes more rest each w p = absurd each.0
