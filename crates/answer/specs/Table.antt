-- 01, "What goes back": the table of the six answers, each the fields after its kind octet. Ranges are those of the events, and an expiry's own.
use Rattle.std.specs.Prelude.{refl}
use Rattle.limits.specs.Limits.{TIME, EXPIRY, WORD, NAME, BTID, BARE, KEY, FLAGS, USER}
use Rattle.format.specs.Format.{Format, number, text, bare, nothing, ◌⨾◌, tag, never, named}
use Rattle.answer.specs.Values.{OpenedValues, ChallengeValues, MadeValues, EntryValues, WantedValues, KeyedValues, AnswerValues}

-- 1: restart, run, timestamp offered or 0
unfoldable pub OPENED : Format OpenedValues
OPENED =
    named OpenedValues
    (number 0 WORD ⨾ number 0 WORD ⨾ number 0 TIME)
    (λ x. record { restart = x.0; run = x.1.0; timestamp = x.1.1 })
    (λ v. (v.restart, (v.run, v.timestamp)))
    (λ v. refl) (λ x. refl)

-- 2: RAND, AUTN
unfoldable pub CHALLENGE : Format ChallengeValues
CHALLENGE =
    named ChallengeValues (bare BARE ⨾ bare BARE) (λ x. record { rand = x.0; autn = x.1 }) (λ v. (v.rand, v.autn)) (λ v. refl) (λ x. refl)

-- 3: B-TID text, bootstrapping time, expiry
unfoldable pub MADE : Format MadeValues
MADE =
    named MadeValues
    (text 1 BTID ⨾ number 0 TIME ⨾ number 0 EXPIRY)
    (λ x. record { btid = x.0; start = x.1.0; expiry = x.1.1 })
    (λ v. (v.btid, (v.start, v.expiry)))
    (λ v. refl) (λ x. refl)

-- 5: key, bootstrapping time, expiry, IMPI text (empty if withheld), 0, or 1 with flags and user name
unfoldable pub ENTRY : Format EntryValues
ENTRY = named EntryValues (bare FLAGS ⨾ text 1 USER) (λ x. record { flags = x.0; user = x.1 }) (λ v. (v.flags, v.user)) (λ v. refl) (λ x. refl)

abbrev pub WANTED : Format WantedValues
WANTED = tag 0 nothing (tag 1 ENTRY never)

unfoldable pub KEYED : Format KeyedValues
KEYED =
    named KeyedValues
    (bare KEY ⨾ number 0 TIME ⨾ number 0 EXPIRY ⨾ text 0 NAME ⨾ WANTED)
    (λ x. record { key = x.0; start = x.1.0; expiry = x.1.1.0; impi = x.1.1.1.0; wanted = x.1.1.1.1 })
    (λ v. (v.key, (v.start, (v.expiry, (v.impi, v.wanted)))))
    (λ v. refl) (λ x. refl)

-- 4 aborted and 6 wrong response have no fields
unfoldable pub ANSWER : Format AnswerValues
ANSWER = tag 1 OPENED (tag 2 CHALLENGE (tag 3 MADE (tag 4 nothing (tag 5 KEYED (tag 6 nothing never)))))
