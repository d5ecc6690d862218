-- Parts of a session that stay of it, through the calls of a script. These rules are this project's own.
use Rattle.lc_session.specs.declared.parts.Parts.{Parts}
use Rattle.lc_session.specs.Report.{AreOfOneSession}
use Rattle.lc_session.specs.Parts.{state_of}

-- what was of one session still is
abbrev pub StaysOfOne : Parts → Parts → Type 0
StaysOfOne old new = AreOfOneSession (state_of old) → AreOfOneSession (state_of new)
