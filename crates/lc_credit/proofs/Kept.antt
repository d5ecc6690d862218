-- What each side keeps, after it learned and after an entry of its own.
use Rattle.std.proofs.Common.{◌≡◌, ℕ, ◌+◌, ◌≤◌, List, Option, Some, None, ap, ◌∙◌, arith}
use Rattle.std.specs.Option.{ForSome, option_map, unwrap_or}
use Rattle.lc_history.specs.History.{Knows}
use Rattle.lc_frame.specs.Kind.{max_total}
use Rattle.lc_credit.specs.declared.history.Entry.{Entry}
use Rattle.lc_credit.specs.declared.history.Entry.TheVariants.{Received, Used, Returned}
use Rattle.lc_credit.specs.declared.credit_out.Use.{Use}
use Rattle.lc_credit.specs.declared.credit_out.Pending.{Pending}
use Rattle.lc_credit.specs.History.{received, used, returned, last_use, is_incoming, is_outgoing, Makes}
use Rattle.lc_credit.specs.Sides.{CreditId, Incoming, Outgoing, IsIncoming, IsUnfinished, IsOutgoing, amount_of}
use Rattle.lc_credit.proofs.Histories.{received_same, made_received, made_used, made_returned, made_last_use}

module _ (i : Incoming) (credit : CreditId) (seen : List Entry) (looks : ℕ) (kept : IsIncoming i) where
  pub learns_in : Knows is_incoming i.seen seen → IsIncoming (record i { credit = credit; seen = seen; looks = looks })
  learns_in knows = let same = received_same i.seen seen knows in let counted = kept.counted in record { counted = omega arith; total = kept.total; bound = kept.bound }

  pub receives : (n : ℕ) (left : Option ℕ) → Makes is_incoming i.seen (Received n) seen → i.received + n ≤ max_total → ForSome left (λ l. l ≤ max_total)
      → IsIncoming (record i { credit = credit; seen = seen; looks = looks; received = i.received + n; left = left })
  receives n left makes total bound =
      let sum : received seen ≡ received i.seen + n = made_received i.seen seen (Received n) makes in
      let counted = kept.counted in
      record { counted = omega arith; total = total; bound = bound }

module _ (o : Outgoing) (credit : CreditId) (seen : List Entry) (looks least : ℕ) (kept : IsOutgoing o) where
  pub learns_out : used seen ≡ used o.seen → returned seen ≡ returned o.seen → last_use seen ≡ last_use o.seen → IsOutgoing (record o { credit = credit; seen = seen; looks = looks; least = least })
  learns_out all_used all_returned same =
      let counted = kept.counted in
      record { counted = omega arith; total = kept.total; last = λ p is. same ∙ kept.last p is; unfinished = kept.unfinished }

  pub uses : (kind : Use) (n k : ℕ) → k ≡ n → o.pending ≡ None → IsUnfinished o → Makes is_outgoing o.seen (Used k) seen → used seen ≤ returned seen + max_total
      → IsOutgoing (record o { credit = credit; seen = seen; looks = looks; pending = Some (record { kind = kind; amount = n }); least = least })
  uses kind n k same idle unfinished makes covered =
      let all_used : used seen ≡ used o.seen + k = made_used o.seen seen (Used k) makes in
      let all_returned : returned seen ≡ returned o.seen + 0 = made_returned o.seen seen (Used k) makes in
      let none : amount_of o.pending ≡ 0 = ap amount_of idle in
      let counted = kept.counted in
      let total = kept.total in
      record {
        counted = omega arith;
        total = omega arith;
        last = λ p is. made_last_use o.seen seen (Used k) makes ∙ ap Some same ∙ ap (option_map (λ (q : Pending). q.amount)) is;
        unfinished = λ p is. unfinished;
      }

  pub waives : (n : ℕ) → o.pending ≡ None → IsUnfinished o → Makes is_outgoing o.seen (Used n) seen → used seen ≤ returned seen + max_total → IsOutgoing (record o { credit = credit; seen = seen; looks = looks; waived = Some n; least = least })
  waives n idle unfinished makes covered =
      let all_used : used seen ≡ used o.seen + n = made_used o.seen seen (Used n) makes in
      let all_returned : returned seen ≡ returned o.seen + 0 = made_returned o.seen seen (Used n) makes in
      let none : amount_of o.pending ≡ 0 = ap amount_of idle in
      let nothing : unwrap_or o.waived 0 ≡ 0 = ap (λ w. unwrap_or w 0) unfinished in
      let counted = kept.counted in
      record { counted = omega arith; total = omega arith; last = λ p is. absurd (cc); unfinished = λ p is. absurd (cc) }

  pub gives_back : (p : Pending) (k : ℕ) → k ≡ p.amount → o.pending ≡ Some p → Makes is_outgoing o.seen (Returned k) seen → IsOutgoing (record o { credit = credit; seen = seen; looks = looks; pending = None; least = least })
  gives_back p k same is makes =
      let all_used : used seen ≡ used o.seen + 0 = made_used o.seen seen (Returned k) makes in
      let all_returned : returned seen ≡ returned o.seen + k = made_returned o.seen seen (Returned k) makes in
      let some : amount_of o.pending ≡ p.amount = ap amount_of is in
      let counted = kept.counted in
      let total = kept.total in
      record { counted = omega arith; total = omega arith; last = λ q other. absurd (cc); unfinished = λ q other. absurd (cc) }
