-- How a session behind a handle ends.
use Rattle.lc_mux.specs.Mux.{MuxState}
use Rattle.lc_c.specs.declared.mux.session.CMux.{CMux}

-- the session behind a handle changes so
abbrev pub with_mux : (MuxState → MuxState) → CMux → CMux
with_mux change session = record session { mux = change session.mux }
