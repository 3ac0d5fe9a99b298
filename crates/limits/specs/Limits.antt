-- Every limit of 01, once: for the definitions here, and for the code in src/. A sum of limits is written as one.
use Rattle.std.specs.Prelude.{ℕ, ◌+◌, ◌*◌, ◌/◌, ◌^◌}

-- 01, "Events and numbers on the line": a number that is read has at most so many groups of seven bits, and so it is below this
abbrev pub GROUPS : ℕ
GROUPS = 6

abbrev pub RANGE : ℕ
RANGE = 128 ^ GROUPS

-- any number of 64 bits has at most so many groups; a state that no history made may hold one that is not below RANGE
abbrev pub WRITTEN : ℕ
WRITTEN = 10

-- the highest time and timestamp
abbrev pub TIME : ℕ
TIME = 999999999999

-- 01, "What goes back": the highest expiry
abbrev pub EXPIRY : ℕ
EXPIRY = 1000000604799

-- the highest restart, run and application
abbrev pub WORD : ℕ
WORD = 4294967295

-- the longest IMPI, peer, FQDN and BSF domain
abbrev pub NAME : ℕ
NAME = 64

-- the octets of the length of a name and of a B-TID, as texts on the line
abbrev pub LENGTH : ℕ
LENGTH = 1

-- the octets of a Ua security protocol identifier; a NAF_Id is an FQDN and then these
abbrev pub UA : ℕ
UA = 5

-- the shortest and the longest XRES and RES
abbrev pub RES_LEAST : ℕ
RES_LEAST = 4

abbrev pub RES_MOST : ℕ
RES_MOST = 16

-- the octets of RAND, AUTN, CK and IK each
abbrev pub BARE : ℕ
BARE = 16

-- the octets of Ks, which is CK and then IK, and those of a key
abbrev pub KS : ℕ
KS = BARE + BARE

abbrev pub KEY : ℕ
KEY = 32

-- the letters of a RAND in base64, four for every three octets begun; and the longest B-TID: these letters, "@" and a BSF domain
abbrev pub LETTERS : ℕ
LETTERS = (BARE + 2) / 3 * 4

abbrev pub BTID : ℕ
BTID = LETTERS + 1 + NAME

-- the shortest and the longest lifetime, in seconds
abbrev pub LIFETIME_LEAST : ℕ
LIFETIME_LEAST = 60

abbrev pub LIFETIME_MOST : ℕ
LIFETIME_MOST = 604800

-- settings: the most entries; of an entry the highest group, the octets of its flags, the longest user name, and the octets of its length
abbrev pub ENTRIES : ℕ
ENTRIES = 4

abbrev pub GROUP : ℕ
GROUP = 255

abbrev pub FLAGS : ℕ
FLAGS = 4

abbrev pub USER : ℕ
USER = 32

abbrev pub USER_LENGTH : ℕ
USER_LENGTH = 1

-- 01, "Opening, clock, tables": at most so many open runs, and so many live sessions
abbrev pub RUNS : ℕ
RUNS = 32

abbrev pub SESSIONS : ℕ
SESSIONS = 64

-- a run lapses so many seconds after its START
abbrev pub LAPSE : ℕ
LAPSE = 30

-- 01, SHORT: a buffer of fewer octets is refused with 2
abbrev pub ROOM : ℕ
ROOM = 160

-- 01, "The event program": the most rows, and the longest body of an event
abbrev pub ROWS : ℕ
ROWS = 16

abbrev pub BODY : ℕ
BODY = 512

-- the most decimal digits of a number of 64 bits; and the longest line: place, blank, number, blank, two digits for each octet of an answer or "-",
-- newline
abbrev pub DIGITS : ℕ
DIGITS = 20

abbrev pub LINE : ℕ
LINE = DIGITS + 1 + (DIGITS + 1) + (1 + 1) + 2 * ROOM
