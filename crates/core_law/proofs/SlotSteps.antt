-- What each step does to the law of its slot: the numbers go from m to n, and the adds used from a to b. What a step
-- takes from a number is added to that of n.
use Rattle.std.proofs.Common.{◌≡◌, ◌≢◌, ℕ, ◌+◌, ◌^◌, ◌<◌, ◌≤◌, arith}
use Rattle.core_events.specs.counter_word.Words.{ZERO, HELP}
use Rattle.core_events.specs.Steps.{plus_one, minus_one}
use Rattle.core_law.specs.Slots.{Numbers, SlotLaw, free, bare, blank, counted, asked, over, husk}
use Rattle.core_law.proofs.SlotSame.{SameNumbers}

-- an add finds no zero flag
pub add_up : (a b : ℕ) (m n : Numbers) → SlotLaw a m → a < 2 ^ 60 → b ≡ a + 1 → m.strong < ZERO
    → m.bit + m.baring + m.filling + m.giving ≡ 0
    → SameNumbers (record m { strong = plus_one m.strong; strong_refs = m.strong_refs + 1 }) n
    → SlotLaw b n
add_up a b m n law fit more low held same = grind (arith, counted)

-- an add finds the zero flag
pub add_dead : (a b : ℕ) (m n : Numbers) → SlotLaw a m → a < 2 ^ 60 → b ≡ a + 1 → ZERO ≤ m.strong
    → m.bit + m.baring + m.filling + m.giving ≡ 0
    → SameNumbers (record m { strong = plus_one m.strong }) n → SlotLaw b n
add_dead a b m n law fit more dead held same = grind (arith, asked, over, husk)

-- one of several strong references goes
pub drop_left : (a b : ℕ) (m n : Numbers) → SlotLaw a m → a < 2 ^ 60 → a ≤ b → m.strong ≢ 1
    → SameNumbers (record m { strong = minus_one m.strong })
    (record n { strong_refs = n.strong_refs + 1 }) → SlotLaw b n
drop_left a b m n law fit le many same = grind (arith, counted)

-- the last strong reference goes
pub drop_zero : (a b : ℕ) (m n : Numbers) → SlotLaw a m → a < 2 ^ 60 → a ≤ b → m.strong ≡ 1
    → SameNumbers (record m { strong = minus_one m.strong; finishing = m.finishing + 1 })
    (record n { strong_refs = n.strong_refs + 1 }) → SlotLaw b n
drop_zero a b m n law fit le last same = grind (arith, counted)

-- a finish finds 0
pub finish_ended : (a b : ℕ) (m n : Numbers) → SlotLaw a m → a < 2 ^ 60 → a ≤ b → m.strong ≡ 0
    → SameNumbers (record m { strong = ZERO; dying = m.dying + 1 })
    (record n { finishing = n.finishing + 1 }) → SlotLaw b n
finish_ended a b m n law fit le zero same = grind (arith, over)

-- a finish finds the help flag
pub finish_help : (a b : ℕ) (m n : Numbers) → SlotLaw a m → a < 2 ^ 60 → a ≤ b
    → ZERO + HELP ≤ m.strong
    → SameNumbers (record m { helping = m.helping + 1 }) (record n { finishing = n.finishing + 1 })
    → SlotLaw b n
finish_help a b m n law fit le help same = grind (arith, asked)

-- a finish finds neither 0 nor the help flag
pub finish_lost : (a b : ℕ) (m n : Numbers) → SlotLaw a m → a < 2 ^ 60 → a ≤ b → m.strong ≢ 0
    → m.strong < ZERO + HELP → SameNumbers m (record n { finishing = n.finishing + 1 }) → SlotLaw b n
finish_lost a b m n law fit le some_left none same =
    grind (arith, free, bare, blank, counted, over, husk)

-- a take finds the help flag
pub take_ended : (a b : ℕ) (m n : Numbers) → SlotLaw a m → a < 2 ^ 60 → a ≤ b → ZERO + HELP ≤ m.strong
    → SameNumbers (record m { dying = m.dying + 1 })
    (record n { strong = n.strong + HELP; helping = n.helping + 1 }) → SlotLaw b n
take_ended a b m n law fit le help same = grind (arith, over)

-- a take finds no help flag
pub take_none : (a b : ℕ) (m n : Numbers) → SlotLaw a m → a < 2 ^ 60 → a ≤ b → m.strong < ZERO + HELP
    → SameNumbers m (record n { helping = n.helping + 1 }) → SlotLaw b n
take_none a b m n law fit le none same = grind (arith, free, bare, blank, counted, over, husk)

-- a mark finds 0
pub mark_zero : (a b : ℕ) (m n : Numbers) → SlotLaw a m → a < 2 ^ 60 → a ≤ b → m.strong ≡ 0
    → SameNumbers (record m { strong = ZERO + HELP }) n → SlotLaw b n
mark_zero a b m n law fit le zero same = grind (arith, asked)

-- a field is written of a slot that is live or dying
pub field_write : (a b : ℕ) (m n : Numbers) → SlotLaw a m → a ≤ b → 0 < m.strong_refs + m.dying
    → SameNumbers (record m { fields = n.fields }) n → SlotLaw b n
field_write a b m n law le live same = grind (arith, counted, over)

-- a claim finds a free slot
pub claim_free : (a b : ℕ) (m n : Numbers) → SlotLaw a m → a ≤ b → m.bit ≡ 1
    → SameNumbers (record m { bit = 0; baring = m.baring + 1 }) n → SlotLaw b n
claim_free a b m n law le is same = grind (arith, bare)

-- a bare slot gets its own reference
pub arm_bare : (a b : ℕ) (m n : Numbers) → SlotLaw a m → a ≤ b
    → SameNumbers (record m { weak = 1; filling = m.filling + 1 }) (record n { baring = n.baring + 1 })
    → SlotLaw b n
arm_bare a b m n law le same = grind (arith, blank)

-- the filled slot becomes live
pub start_live : (a b : ℕ) (m n : Numbers) → SlotLaw a m → a < 2 ^ 60 → b ≡ a + 1
    → SameNumbers (record m { strong = 1; strong_refs = m.strong_refs + 1 })
    (record n { filling = n.filling + 1 }) → SlotLaw b n
start_live a b m n law fit more same = grind (arith, counted)

-- a slot is given back
pub give_back : (a b : ℕ) (m n : Numbers) → SlotLaw a m → a ≤ b
    → SameNumbers (record m { bit = 1 }) (record n { giving = n.giving + 1 }) → SlotLaw b n
give_back a b m n law le same = grind (arith, free)

-- one more weak reference
pub weak_add : (a b : ℕ) (m n : Numbers) → SlotLaw a m → a < 2 ^ 60 → b ≡ a + 1
    → m.bit + m.baring + m.filling + m.giving ≡ 0
    → SameNumbers (record m { weak = plus_one m.weak; weak_refs = m.weak_refs + 1 }) n → SlotLaw b n
weak_add a b m n law fit more held same = grind (arith, counted, asked, over, husk)

-- one of several weak references goes
pub weak_left : (a b : ℕ) (m n : Numbers) → SlotLaw a m → a < 2 ^ 60 → a ≤ b → m.weak ≢ 1
    → SameNumbers (record m { weak = minus_one m.weak }) (record n { weak_refs = n.weak_refs + 1 })
    → SlotLaw b n
weak_left a b m n law fit le many same = grind (arith, counted, asked, over, husk)

-- the last weak reference goes
pub weak_last : (a b : ℕ) (m n : Numbers) → SlotLaw a m → a < 2 ^ 60 → a ≤ b → m.weak ≡ 1
    → SameNumbers (record m { weak = minus_one m.weak; giving = m.giving + 1 })
    (record n { weak_refs = n.weak_refs + 1 }) → SlotLaw b n
weak_last a b m n law fit le last same = grind (arith, husk)

-- a slot is destroyed that weak references name
pub destroy_left : (a b : ℕ) (m n : Numbers) → SlotLaw a m → a < 2 ^ 60 → a ≤ b → m.fields ≡ 0
    → m.weak ≢ 1
    → SameNumbers (record m { weak = minus_one m.weak }) (record n { dying = n.dying + 1 })
    → SlotLaw b n
destroy_left a b m n law fit le nulls many same = grind (arith, husk)

-- a slot is destroyed that nothing names
pub destroy_last : (a b : ℕ) (m n : Numbers) → SlotLaw a m → a < 2 ^ 60 → a ≤ b → m.fields ≡ 0
    → m.weak ≡ 1
    → SameNumbers (record m { weak = minus_one m.weak; giving = m.giving + 1 })
    (record n { dying = n.dying + 1 }) → SlotLaw b n
destroy_last a b m n law fit le nulls last same = grind (arith, husk)
