-- How many octets the fields of an answer take at the most. A number of a state that no history made may take more than one in range.
use Rattle.std.specs.Prelude.{ℕ, ◌+◌}
use Rattle.limits.specs.Limits.{GROUPS, WRITTEN, NAME, LENGTH, KEY, BTID, FLAGS, USER, USER_LENGTH}

-- a name as a text, and a B-TID as one
abbrev pub NAME_ROOM : ℕ
NAME_ROOM = LENGTH + NAME

abbrev pub BTID_ROOM : ℕ
BTID_ROOM = LENGTH + BTID

-- 1, the flags and the user name of an entry
abbrev pub ENTRY_ROOM : ℕ
ENTRY_ROOM = 1 + FLAGS + (USER_LENGTH + USER)

-- the kind, the key and the two times of answer 5
abbrev pub SESSION_ROOM : ℕ
SESSION_ROOM = 1 + KEY + WRITTEN + WRITTEN

-- 01, "What goes back": the longest answer in range, which is answer 5, has 148 octets
abbrev pub LONGEST : ℕ
LONGEST = 1 + KEY + GROUPS + GROUPS + NAME_ROOM + ENTRY_ROOM
