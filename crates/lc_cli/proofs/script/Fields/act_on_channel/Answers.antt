use Rattle.std.proofs.Common.{◌≡◌, ap, List, ℕ, ◌∷◌, ◌++◌}
use Rattle.std.specs.Fmt.{decimal}
use Rattle.lc_frame.specs.Channel.{number_of}
use Rattle.lc_cli.specs.declared.words.Word.{Word}
use Rattle.lc_cli.specs.Fields.{word_text}
use Rattle.lc_cli.proofs.Scripts.{reads_more}
use Rattle.lc_cli.proofs.script.Fields.act_on_channel.Goals as goal

worded : (word as_one : Word) (text : List ℕ) → word ≡ as_one → word_text word ++ (32 ∷ text) ≡ word_text as_one ++ (32 ∷ text)
worded word as_one text is = ap (λ (w : Word). word_text w ++ (32 ∷ text)) is

pub returns-in_ok-body-in-Send : goal.returns-in_ok-body-in-Send
returns-in_ok-body-in-Send c =
    let (field, (writes, reads)) = c.in_ok-body-in-Send.ensures in
    let text : List ℕ = decimal (number_of c.in_ok-channel.channel) ++ (32 ∷ field) in
    (text, ((field, (writes, worded _ _ text c.in-Send.is)), reads_more _ _ _ _ _ c.in_ok-channel.ensures reads))

pub returns-in_ok-amount-in-Issue : goal.returns-in_ok-amount-in-Issue
returns-in_ok-amount-in-Issue c =
    let text : List ℕ = decimal (number_of c.in_ok-channel.channel) ++ (32 ∷ decimal c.in_ok-amount-in-Issue.field-0) in
    (text, (worded _ _ text c.in-Issue.is, reads_more _ _ _ _ _ c.in_ok-channel.ensures c.in_ok-amount-in-Issue.ensures))

pub returns-in_ok-amount-in-Plead : goal.returns-in_ok-amount-in-Plead
returns-in_ok-amount-in-Plead c =
    let text : List ℕ = decimal (number_of c.in_ok-channel.channel) ++ (32 ∷ decimal c.in_ok-amount-in-Plead.field-0) in
    (text, (worded _ _ text c.in-Plead.is, reads_more _ _ _ _ _ c.in_ok-channel.ensures c.in_ok-amount-in-Plead.ensures))

pub returns-in_ok-amount-in-Absolve : goal.returns-in_ok-amount-in-Absolve
returns-in_ok-amount-in-Absolve c =
    let text : List ℕ = decimal (number_of c.in_ok-channel.channel) ++ (32 ∷ decimal c.in_ok-amount-in-Absolve.field-0) in
    (text, (worded _ _ text c.in-Absolve.is, reads_more _ _ _ _ _ c.in_ok-channel.ensures c.in_ok-amount-in-Absolve.ensures))

pub returns-in_ok-bound-in-LimitSending : goal.returns-in_ok-bound-in-LimitSending
returns-in_ok-bound-in-LimitSending c =
    let text : List ℕ = decimal (number_of c.in_ok-channel.channel) ++ (32 ∷ decimal c.in_ok-bound-in-LimitSending.field-0) in
    (text, (worded _ _ text c.in-LimitSending.is, reads_more _ _ _ _ _ c.in_ok-channel.ensures c.in_ok-bound-in-LimitSending.ensures))

pub returns-in_ok-bound-in-LimitReceiving : goal.returns-in_ok-bound-in-LimitReceiving
returns-in_ok-bound-in-LimitReceiving c =
    let text : List ℕ = decimal (number_of c.in_ok-channel.channel) ++ (32 ∷ decimal c.in_ok-bound-in-LimitReceiving.field-0) in
    (text, (worded _ _ text c.in-LimitReceiving.is, reads_more _ _ _ _ _ c.in_ok-channel.ensures c.in_ok-bound-in-LimitReceiving.ensures))

pub returns-in-Honour : goal.returns-in-Honour
returns-in-Honour c =
    let text : List ℕ = decimal (number_of c.in_ok-channel.channel) in
    (text, (worded _ _ text c.in-Honour.is, c.in_ok-channel.ensures))

pub returns-in-Finish : goal.returns-in-Finish
returns-in-Finish c =
    let text : List ℕ = decimal (number_of c.in_ok-channel.channel) in
    (text, (worded _ _ text c.in-Finish.is, c.in_ok-channel.ensures))

pub returns-in-Take : goal.returns-in-Take
returns-in-Take c =
    let text : List ℕ = decimal (number_of c.in_ok-channel.channel) in
    (text, (worded _ _ text c.in-Take.is, c.in_ok-channel.ensures))
