-- A value of no memory, as the machine has it.
use mir.Val.{Val, vstruct, vnil}

abbrev pub gone : Val
gone = vstruct vnil
