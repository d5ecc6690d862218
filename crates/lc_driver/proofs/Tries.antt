-- Calls that were interrupted, one after another, and the one that was not.
use Rattle.std.proofs.Common.{◌≡◌, ℕ, ◌+◌, ◌-◌, ◌^◌, List, [], ◌∷◌, ◌++◌, length, Option, Some, None, Result, Ok, Err, ◌∙◌, arith, length-append}
use Rattle.std.specs.Prelude.{All}
use Rattle.std.specs.List.{FoldsTo}
use Rattle.std.specs.IoError.{error_kind}
use Rattle.std.specs.declared.io.Error.{Error}
use Rattle.std.specs.declared.io.ErrorKind.TheVariants.{Interrupted}
use Rattle.std.specs.Io.KnownBytes.{Keeps, ReadConsumes, WriteAppends}
use Rattle.std.proofs.lemmas.Fn.{FoldsTo-push}
use Rattle.std.proofs.lemmas.List.Elements.{All-append, All-cons, All-nil}
use Rattle.lc_driver.specs.Tries.{WasInterrupted, MadeAgain}

-- so many calls were made so far, and all were interrupted
pub record Interruptions {S A : Type 0} (once : S → Result A Error → S → Type 0) (old now : S) (count : ℕ) : Type 0 where
  pub errors : List Error
  pub interrupted : All (λ e. error_kind e ≡ Interrupted) errors
  pub before : FoldsTo (λ s e t. once s (Err e) t) old errors now
  pub so_many : length errors ≡ count

pub one_more : {S A : Type 0} (once : S → Result A Error → S → Type 0) {old now new : S} {count : ℕ} (answer : Result A Error) → Interruptions once old now count → WasInterrupted answer → once now answer new → Interruptions once old new (count + 1)
one_more once (Ok x) so_far is call = absurd is
one_more once {old} {now} {new} {count} (Err e) so_far is call = record {
  errors = so_far.errors ++ (e ∷ []);
  interrupted = All-append (λ f. error_kind f ≡ Interrupted) so_far.errors (e ∷ []) so_far.interrupted (All-cons (λ f. error_kind f ≡ Interrupted) e [] is (All-nil (λ f. error_kind f ≡ Interrupted)));
  before = FoldsTo-push (λ s f t. once s (Err f) t) old so_far.errors now e new so_far.before call;
  so_many = omega (arith, so_far.so_many, length-append so_far.errors (e ∷ []));
}

pub the_last : {S A : Type 0} (once : S → Result A Error → S → Type 0) {old now new : S} {count : ℕ} (answer : Result A Error) → Interruptions once old now count → once now answer new → (WasInterrupted answer → count ≡ 2 ^ 64 - 1) → MadeAgain once old answer new
the_last once {now = now} answer so_far call last = record {
  errors = so_far.errors;
  interrupted = so_far.interrupted;
  last = now;
  before = so_far.before;
  answered = call;
  spent = λ is. so_far.so_many ∙ last is;
}

-- ---- what is known of a device's bytes stays as it was

pub kept_then : (a b c : Option (List ℕ)) → Keeps a b → Keeps b c → Keeps a c
kept_then None b c p q = tt
kept_then (Some x) None c p q = absurd p
kept_then (Some x) (Some y) None p q = absurd q
kept_then (Some x) (Some y) (Some z) p q = q ∙ p

pub reads_none : (a b c : Option (List ℕ)) (answer : Result ℕ Error) (bytes : List ℕ) → Keeps a b → WasInterrupted answer → ReadConsumes b c answer bytes → Keeps a c
reads_none a b c (Ok n) bytes kept is call = absurd is
reads_none a b c (Err e) bytes kept is call = kept_then a b c kept call

pub writes_none : (a b c : Option (List ℕ)) (answer : Result ℕ Error) (bytes : List ℕ) → Keeps a b → WasInterrupted answer → WriteAppends b c answer bytes → Keeps a c
writes_none a b c (Ok n) bytes kept is call = absurd is
writes_none a b c (Err e) bytes kept is call = kept_then a b c kept call
