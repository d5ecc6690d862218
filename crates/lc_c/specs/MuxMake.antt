-- What makes a session behind a handle. That it counts its inbound bytes is this project's own.
use Rattle.lc_peer.specs.declared.config.Config.{Config}
use Rattle.lc_mux.specs.Mux.{new_mux}
use Rattle.lc_c.specs.declared.mux.session.CMux.{CMux}

-- nothing has happened, and no byte was taken
abbrev pub new_c_mux : Config → CMux
new_c_mux config = record { mux = new_mux config; taken = 0 }
