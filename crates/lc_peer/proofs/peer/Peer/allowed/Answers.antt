use Rattle.std.proofs.Common.{◌≡◌, sym, ap, subst, ◌∙◌}
use Rattle.std.specs.Prelude.{Option, ℕ}
use Rattle.lc_book.specs.Client.{Client, IsClient}
use Rattle.lc_book.specs.Server.{Server}
use Rattle.lc_peer.specs.Peer.{client, server}
use Rattle.lc_peer.specs.Offending.{allowed, Exceeds}
use Rattle.lc_peer.proofs.Offending.{exceeds_on}
use Rattle.lc_peer.proofs.peer.Peer.allowed.Goals as goal

pub returns-clause-exceeded : goal.returns-clause-exceeded
returns-clause-exceeded c = λ f on e.
    let p = c.args.self.now in
    let v = c.args.violation in
    let is : c.allowed.result ≡ allowed (client p c.args.channel) (server p c.args.channel) v =
    c.allowed.ensures
    ∙ ap (λ (b : Client). allowed b c.server_book.result.now v) c.client_book.ensures.value
    ∙ ap (λ (b : Server). allowed (client p c.args.channel) b v) c.server_book.ensures.value in
    subst (λ (o : Option ℕ). Exceeds f v o) (sym is) (exceeds_on p c.args.channel f v (subst IsClient c.client_book.ensures.value c.client_book.ensures.kept) on e)
