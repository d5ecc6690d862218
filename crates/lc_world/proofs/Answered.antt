-- What a call of a peer answers, as the answer to the event that it is.
use Rattle.std.proofs.Common.{◌≡◌, ℕ, List, Option, Some, None, Result, Ok, Err, refl, sym, ap, ◌∙◌, subst, inl, inr}
use Rattle.std.specs.Prelude.{if◌then◌else◌, is_ok, IfOk}
use Rattle.std.specs.Option.{option_or}
use Rattle.std.specs.Result.{result_err}
use Rattle.lc_frame.specs.declared.channel.Channel.{Channel}
use Rattle.lc_frame.specs.declared.frame.Frame.{Frame}
use Rattle.lc_frame.specs.declared.frame.Frame.TheVariants as frame
use Rattle.lc_frame.proofs.Channels.{some_same}
use Rattle.lc_book.specs.declared.fault.Refusal.{Refusal}
use Rattle.lc_book.specs.Client.{honour_refusal as book_honour_refusal}
use Rattle.lc_peer.specs.Peer.{PeerState, client}
use Rattle.lc_peer.specs.Calls.{refusal_by_books, refusal, queue_refusal, IsSendAnswer, put, due, absolving_refusal, honour_refusal, put_honour}
use Rattle.lc_world.specs.declared.event.Act.{Act}
use Rattle.lc_world.specs.declared.event.Act.TheVariants.{Send, Issue, Plead, Absolve, Honour, LimitSending, LimitReceiving, Finish}
use Rattle.lc_world.specs.declared.event.Answer.{Answer}
use Rattle.lc_world.specs.declared.event.Answer.TheVariants.{Accepted, Refused}
use Rattle.lc_world.specs.Answers.{judged, honoured, honour_judged}
use Rattle.lc_world.specs.Calls.{own_channel, after_call, honour_returned, Called}

or_none : (o : Option Refusal) → option_or o None ≡ o
or_none None = refl
or_none (Some r) = refl

-- where a slot is free, only the books refuse
by_books : (p : PeerState) (f : Frame) → queue_refusal p ≡ None → refusal p f ≡ refusal_by_books p f
by_books p f free = ap (λ (o : Option Refusal). option_or (refusal_by_books p f) o) free ∙ or_none (refusal_by_books p f)

abbrev Leaves : PeerState → PeerState → Frame → Result (Unit {0}) Refusal → Type 0
Leaves p new f r = new ≡ (if is_ok r then put p f else p)

module _ (p new : PeerState) (act : Act) (f : Frame) (accepted : after_call act Accepted p ≡ put p f) (refused : (e : Refusal) → after_call act (Refused e) p ≡ p) where
  left : (r : Result (Unit {0}) Refusal) (answer : Answer) → answer ≡ judged (result_err r) → Leaves p new f r → new ≡ after_call act answer p
  left (Ok u) answer ea en = en ∙ (sym accepted ∙ ap (λ (a : Answer). after_call act a p) (sym ea))
  left (Err e) answer ea en = en ∙ (sym (refused e) ∙ ap (λ (a : Answer). after_call act a p) (sym ea))

-- a call that puts this frame
module _ (p new : PeerState) (free : queue_refusal p ≡ None) (r : Result (Unit {0}) Refusal) (answer : Answer) (told : answer ≡ judged (result_err r)) where
  right_is : (f : Frame) → result_err r ≡ refusal p f → answer ≡ judged (refusal_by_books p f)
  right_is f e = told ∙ ap judged (e ∙ by_books p f free)

  abbrev Calls : Act → Type 0
  Calls act = Called p new act answer

  issues : (c : Channel) (n : ℕ) → result_err r ≡ refusal p (frame.Issue c n) → Leaves p new (frame.Issue c n) r → Calls (Issue c n)
  issues c n e l = record { right = inl (right_is (frame.Issue c n) e); after = left p new (Issue c n) (frame.Issue c n) refl (λ e. refl) r answer told l }

  pleads : (c : Channel) (n : ℕ) → result_err r ≡ refusal p (frame.Plead c n) → Leaves p new (frame.Plead c n) r → Calls (Plead c n)
  pleads c n e l = record { right = inl (right_is (frame.Plead c n) e); after = left p new (Plead c n) (frame.Plead c n) refl (λ e. refl) r answer told l }

  absolves : (c : Channel) (n : ℕ) → result_err r ≡ refusal p (frame.Absolve c n) → Leaves p new (frame.Absolve c n) r → Calls (Absolve c n)
  absolves c n e l = record { right = inl (right_is (frame.Absolve c n) e); after = left p new (Absolve c n) (frame.Absolve c n) refl (λ e. refl) r answer told l }

  limits_sending : (c : Channel) (n : ℕ) → result_err r ≡ refusal p (frame.LimitSending c n) → Leaves p new (frame.LimitSending c n) r → Calls (LimitSending c n)
  limits_sending c n e l = record { right = inl (right_is (frame.LimitSending c n) e); after = left p new (LimitSending c n) (frame.LimitSending c n) refl (λ e. refl) r answer told l }

  limits_receiving : (c : Channel) (n : ℕ) → result_err r ≡ refusal p (frame.LimitReceiving c n) → Leaves p new (frame.LimitReceiving c n) r → Calls (LimitReceiving c n)
  limits_receiving c n e l = record { right = inl (right_is (frame.LimitReceiving c n) e); after = left p new (LimitReceiving c n) (frame.LimitReceiving c n) refl (λ e. refl) r answer told l }

  finishes : (c : Channel) → result_err r ≡ refusal p (frame.Finish c) → Leaves p new (frame.Finish c) r → Calls (Finish c)
  finishes c e l = record { right = inl (right_is (frame.Finish c) e); after = left p new (Finish c) (frame.Finish c) refl (λ e. refl) r answer told l }

  sends : (c : Channel) (body : List ℕ) → IsSendAnswer p (frame.Send c body) (result_err r) → Leaves p new (frame.Send c body) r → Calls (Send c body)
  sends c body h l =
      record {
        right = elim h [ inl e ↦ inl (right_is (frame.Send c body) e) | inr e ↦ inr (tt, told ∙ ap judged e.1) ];
        after = left p new (Send c body) (frame.Send c body) refl (λ e. refl) r answer told l;
      }

  -- the same of the event as it is given, with its channel
  abbrev By : (Channel → Act) → Channel → Act → Type 0
  By of c act = (d : Channel) → act ≡ of d → own_channel act ≡ Some c → own_channel (of d) ≡ Some d → Calls (of c) → Calls act

  pub at_channel : (of : Channel → Act) (c : Channel) (act : Act) → By of c act
  at_channel of c act d e own mine h =
      let same : d ≡ c = some_same d c (sym mine ∙ (ap own_channel (sym e) ∙ own)) in
      subst (λ (a : Act). Calls a) (sym (e ∙ ap of same)) h

  pub issue_called : (act : Act) (c d : Channel) (n : ℕ) → act ≡ Issue d n → own_channel act ≡ Some c → result_err r ≡ refusal p (frame.Issue c n) → Leaves p new (frame.Issue c n) r → Calls act
  issue_called act c d n e own a l = at_channel (λ x. Issue x n) c act d e own refl (issues c n a l)

  pub plead_called : (act : Act) (c d : Channel) (n : ℕ) → act ≡ Plead d n → own_channel act ≡ Some c → result_err r ≡ refusal p (frame.Plead c n) → Leaves p new (frame.Plead c n) r → Calls act
  plead_called act c d n e own a l = at_channel (λ x. Plead x n) c act d e own refl (pleads c n a l)

  pub absolve_called : (act : Act) (c d : Channel) (n : ℕ) → act ≡ Absolve d n → own_channel act ≡ Some c → result_err r ≡ refusal p (frame.Absolve c n) → Leaves p new (frame.Absolve c n) r → Calls act
  absolve_called act c d n e own a l = at_channel (λ x. Absolve x n) c act d e own refl (absolves c n a l)

  pub limit_sending_called : (act : Act) (c d : Channel) (n : ℕ) → act ≡ LimitSending d n → own_channel act ≡ Some c → result_err r ≡ refusal p (frame.LimitSending c n) → Leaves p new (frame.LimitSending c n) r → Calls act
  limit_sending_called act c d n e own a l = at_channel (λ x. LimitSending x n) c act d e own refl (limits_sending c n a l)

  pub limit_receiving_called : (act : Act) (c d : Channel) (n : ℕ) → act ≡ LimitReceiving d n → own_channel act ≡ Some c → result_err r ≡ refusal p (frame.LimitReceiving c n) → Leaves p new (frame.LimitReceiving c n) r → Calls act
  limit_receiving_called act c d n e own a l = at_channel (λ x. LimitReceiving x n) c act d e own refl (limits_receiving c n a l)

  pub finish_called : (act : Act) (c d : Channel) → act ≡ Finish d → own_channel act ≡ Some c → result_err r ≡ refusal p (frame.Finish c) → Leaves p new (frame.Finish c) r → Calls act
  finish_called act c d e own a l = at_channel (λ x. Finish x) c act d e own refl (finishes c a l)

  pub send_called : (act : Act) (c d : Channel) (body : List ℕ) → act ≡ Send d body → own_channel act ≡ Some c → IsSendAnswer p (frame.Send c body) (result_err r) → Leaves p new (frame.Send c body) r → Calls act
  send_called act c d body e own a l = at_channel (λ x. Send x body) c act d e own refl (sends c body a l)

-- an honour
module _ (p new : PeerState) (free : queue_refusal p ≡ None) (c : Channel) where
  has_a_slot : (o : Option ℕ) → absolving_refusal p o ≡ None
  has_a_slot None = refl
  has_a_slot (Some n) = free

  by_book : honour_refusal p c ≡ book_honour_refusal (client p c)
  by_book = ap (λ (o : Option Refusal). option_or (book_honour_refusal (client p c)) o) (has_a_slot (due p c)) ∙ or_none (book_honour_refusal (client p c))

  after_honour : (o : Option ℕ) (answer : Answer) → answer ≡ honoured o → new ≡ put_honour p c → new ≡ after_call (Honour c) answer p
  after_honour None answer ea en = en ∙ ap (λ (a : Answer). after_call (Honour c) a p) (sym ea)
  after_honour (Some n) answer ea en = en ∙ ap (λ (a : Answer). after_call (Honour c) a p) (sym ea)

  judged_by : (o : Option Refusal) → o ≡ honour_refusal p c → honour_judged o (due p c) ≡ honour_judged (book_honour_refusal (client p c)) (due p c)
  judged_by o e = ap (λ (x : Option Refusal). honour_judged x (due p c)) (e ∙ by_book)

  honours : (r : Result (Option ℕ) Refusal) (answer : Answer) → answer ≡ honour_returned r → result_err r ≡ honour_refusal p c → IfOk r (λ amount. amount ≡ due p c) → new ≡ (if is_ok r then put_honour p c else p) → Called p new (Honour c) answer
  honours (Ok o) answer told e amount l = record { right = inl (told ∙ (ap honoured amount ∙ judged_by None e)); after = after_honour o answer told l }
  honours (Err r) answer told e amount l = record { right = inl (told ∙ judged_by (Some r) e); after = l ∙ ap (λ (a : Answer). after_call (Honour c) a p) (sym told) }

  pub honour_called : (r : Result (Option ℕ) Refusal) (act : Act) (d : Channel) (answer : Answer) → act ≡ Honour d → own_channel act ≡ Some c → answer ≡ honour_returned r → result_err r ≡ honour_refusal p c → IfOk r (λ amount. amount ≡ due p c) → new ≡ (if is_ok r then put_honour p c else p) → Called p new act answer
  honour_called r act d answer ea own told e amount l =
      let same : d ≡ c = some_same d c (ap own_channel (sym ea) ∙ own) in
      subst (λ (a : Act). Called p new a answer) (sym (ea ∙ ap (λ (x : Channel). Honour x) same)) (honours r answer told e amount l)
