-- What ends took, and how their balances agree.
use Rattle.std.proofs.Common.{IsTrue, Bool, true, false, ◌&&◌, ◌≡◌, ℕ, zero, suc, ◌+◌, ◌*◌, ◌≤◌, ◌<◌, List, [], ◌∷◌, ◌++◌, length, take, drop, map, Ok, refl, sym, ap, subst, ◌∙◌, append_assoc, append-nil, length-append, arith, slice_index_or}
use Rattle.std.specs.Prelude.{sum_by, replicate}
use Rattle.std.specs.List.{AllZip, AllByRecursion}
use Rattle.std.proofs.lemmas.List.{take_at}
use Rattle.std.proofs.lemmas.List.Sums.{sum_by-append}
use Rattle.lc_frame.specs.declared.channel.Channel.{Channel}
use Rattle.lc_queue.specs.Parts.{End}
use Rattle.lc_credit.specs.declared.balance.Balance.{Balance}
use Rattle.lc_peer.specs.declared.inbox.Take.{Take}
use Rattle.lc_peer.specs.declared.inbox.Take.TheVariants.{Took}
use Rattle.lc_inbox.specs.History.{took}
use Rattle.lc_inbox.specs.Sides.{InboxSide, IsSameSide, IsTakeAnswer}
use Rattle.lc_inbox.specs.declared.rule.Key.{Key}
use Rattle.lc_inbox.specs.Inboxes.{AreNew}
use Rattle.lc_loopback.specs.declared.taken.Taken.{Taken}
use Rattle.lc_loopback.specs.declared.plan.Plan.{Plan}
use Rattle.lc_loopback.specs.Plan.{message, due_first, due}
use Rattle.lc_loopback.specs.Played.{TakesAll, EachGave, HasTaken, AgreesWith, messages_of, bytes_of, messages_taken, bytes_taken}

-- the message that was taken stands in the buffer
pub takes_next : (len : ℕ) (answer : Take) (buffer filled : List ℕ) (first old new : InboxSide) → answer ≡ Took len → took old.seen ≡ took first.seen → IsTakeAnswer answer buffer filled old new → took new.seen ≡ took first.seen ++ take len filled ∷ []
takes_next len answer buffer filled first old new is same given =
    let h = subst (λ (t : Take). IsTakeAnswer t buffer filled old new) is given in
    let there : take len filled ≡ h.0 = ap (take len) h.3 ∙ take_at h.0 (drop (length h.0) buffer) len (sym h.2) in
    h.1.took ∙ (λ i. same i ++ sym there i ∷ [])

-- so many of the messages that are due were taken, of so many bytes
pub record TookSome (p : Plan) (old new : InboxSide) (count bytes : ℕ) : Type 0 where
  pub took_is : took new.seen ≡ took old.seen ++ due_first p old.key.channel count
  pub bytes_is : bytes ≡ sum_by length (due_first p old.key.channel count)
  pub few : bytes ≤ 65536 * count

pub took_none : (p : Plan) (old new : InboxSide) → took new.seen ≡ took old.seen → TookSome p old new 0 0
took_none p old new same = record { took_is = same ∙ sym (append-nil (took old.seen)); bytes_is = refl; few = omega arith }

pub length_due : (p : Plan) (c : Channel) (n : ℕ) → length (due_first p c n) ≡ n
length_due p c zero = refl
length_due p c (suc n) = omega (arith, length-append (due_first p c n) (message p c n ∷ []), length_due p c n)

sum_more : (xs : List (List ℕ)) (x : List ℕ) → sum_by length (xs ++ x ∷ []) ≡ sum_by length xs + length x
sum_more xs x = let one : sum_by length (x ∷ []) ≡ length x = omega arith in sum_by-append length xs (x ∷ []) ∙ ap (λ (n : ℕ). sum_by length xs + n) one

pub took_one : (p : Plan) (old mid new : InboxSide) (count bytes : ℕ) (body : List ℕ) → TookSome p old mid count bytes → took new.seen ≡ took mid.seen ++ body ∷ [] → body ≡ message p old.key.channel count → length body < 65536 → TookSome p old new (count + 1) (bytes + length body)
took_one p old mid new count bytes body h more is short =
    let next : suc count ≡ count + 1 = omega arith in
    let c = old.key.channel in
    let sums = sum_more (due_first p c count) (message p c count) in
    let long : length body ≡ length (message p c count) = ap length is in
    let one : TookSome p old new (suc count) (bytes + length body) = record {
      took_is = more ∙ ((λ i. h.took_is i ++ is i ∷ []) ∙ append_assoc (took old.seen) (due_first p c count) (message p c count ∷ []));
      bytes_is = (λ i. h.bytes_is i + long i) ∙ sym sums;
      few = omega (arith, h.few, short);
    } in
    subst (λ (k : ℕ). TookSome p old new k (bytes + length body)) next one

pub took_all : (p : Plan) (old mid new : InboxSide) (bytes : ℕ) (n : Taken) → TookSome p old mid p.messages bytes → took new.seen ≡ took mid.seen → n.messages ≡ p.messages → n.bytes ≡ bytes → TakesAll p old n new
took_all p old mid new bytes n h same messages_is bytes_is = record {
  took_is = same ∙ h.took_is;
  messages_is = messages_is;
  bytes_is = bytes_is ∙ h.bytes_is;
}

-- place by place, one more
pub zip_more : {A B : Type 0} (R : A → B → Type 0) (n : ℕ) (xs : List A) (ys : List B) (d : A) (e : B) → n < length xs → n < length ys → AllZip R (take n xs) (take n ys) → R (slice_index_or xs n d) (slice_index_or ys n e) → AllZip R (take (suc n) xs) (take (suc n) ys)
zip_more R n [] ys d e below under all one = absurd (omega (arith, below))
zip_more R n (x ∷ xs) [] d e below under all one = absurd (omega (arith, under))
zip_more R zero (x ∷ xs) (y ∷ ys) d e below under all one = (one, tt)
zip_more R (suc n) (x ∷ xs) (y ∷ ys) d e below under all one = (all.0, zip_more R n xs ys d e (omega (arith, below)) (omega (arith, under)) all.1 one)

-- what ends that had taken nothing took in all, and what they counted
pub record TookOut (p : Plan) (ends : ℕ) (all : List Taken) (sides : List InboxSide) : Type 0 where
  pub have : AllByRecursion (HasTaken p) sides
  pub messages : map messages_of all ≡ map messages_taken sides
  pub counts : map messages_of all ≡ replicate ends p.messages
  pub bytes : map bytes_of all ≡ map bytes_taken sides

one_took : (p : Plan) (w v : InboxSide) (n : Taken) → took w.seen ≡ [] → IsSameSide w v → TakesAll p w n v → HasTaken p v
one_took p w v n none same h = h.took_is ∙ (λ i. none i ++ due p (sym same.key i).channel)

pub took_out : (p : Plan) (capacities : List ℕ) (lanes : List End) (incoming outgoing : List InboxSide) (all : List Taken) (news : List InboxSide) → AreNew capacities lanes incoming outgoing → AllZip IsSameSide outgoing news → EachGave (TakesAll p) outgoing (map Ok all) news → TookOut p (length lanes) all news
took_out p cs [] [] [] [] [] new same gave = record { have = tt; messages = refl; counts = refl; bytes = refl }
took_out p cs [] [] [] [] (v ∷ news) new same gave = absurd gave
took_out p cs [] [] [] (n ∷ all) news new same gave = absurd gave
took_out p cs [] [] (w ∷ outgoing) all news new same gave = absurd new
took_out p cs [] (i ∷ incoming) outgoing all news new same gave = absurd new
took_out p cs (l ∷ lanes) [] outgoing all news new same gave = absurd new
took_out p cs (l ∷ lanes) (i ∷ incoming) [] all news new same gave = absurd new
took_out p cs (l ∷ lanes) (i ∷ incoming) (w ∷ outgoing) [] news new same gave = absurd gave
took_out p cs (l ∷ lanes) (i ∷ incoming) (w ∷ outgoing) (n ∷ all) [] new same gave = absurd gave
took_out p cs (l ∷ lanes) (i ∷ incoming) (w ∷ outgoing) (n ∷ all) (v ∷ news) new same gave =
    let none : took w.seen ≡ [] = ap (λ (s : InboxSide). took s.seen) new.0.one ∙ ap took new.0.seen in
    let here = one_took p w v n none same.0 gave.0 in
    let later = took_out p cs lanes incoming outgoing all news new.1 same.1 gave.1 in
    let count : messages_taken v ≡ p.messages = ap length here ∙ length_due p v.key.channel p.messages in
    let messages_is : messages_of n ≡ messages_taken v = gave.0.messages_is ∙ sym count in
    let bytes_is : bytes_of n ≡ bytes_taken v = gave.0.bytes_is ∙ (ap (λ (k : Key). sum_by length (due p k.channel)) (sym same.0.key) ∙ ap (sum_by length) (sym here)) in
    record {
      have = (here, later.have);
      messages = (λ i. messages_is i ∷ later.messages i);
      counts = (λ i. gave.0.messages_is i ∷ later.counts i);
      bytes = (λ i. bytes_is i ∷ later.bytes i);
    }

-- one channel more agrees
pub agree_more : (n : ℕ) (balances : List Balance) (bytes : List ℕ) (all one : Bool) (d : Balance) (e : ℕ) → n < length balances → n < length bytes → (IsTrue all → AllZip AgreesWith (take n balances) (take n bytes)) → (IsTrue one → AgreesWith (slice_index_or balances n d) (slice_index_or bytes n e)) → IsTrue (all && one) → AllZip AgreesWith (take (n + 1) balances) (take (n + 1) bytes)
agree_more n balances bytes true true d e below under before here both =
    let next : suc n ≡ n + 1 = omega arith in
    subst (λ (k : ℕ). AllZip AgreesWith (take k balances) (take k bytes)) next (zip_more AgreesWith n balances bytes d e below under (before refl) (here refl))
agree_more n balances bytes true false d e below under before here both = absurd (cc)
agree_more n balances bytes false one d e below under before here both = absurd (cc)
