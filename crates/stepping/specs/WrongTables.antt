-- The scripts at which wrong machines are told from the machine defined: each has precondition true, and postcondition true but for
-- one. v0 is to be 3, v1 2 to the 62nd. Assumes nothing.
use Rattle.std.specs.Prelude.{List, [], ℤ}
use Rattle.script.specs.Computed.{◌⨾◌}

-- v2 := (v1 + v1) div 0
abbrev pub big_by_zero : List ℤ
big_by_zero =
    (16, 0, 0, 0) ⨾ (2, 1, 0, 0) ⨾ (2, 1, 0, 0) ⨾ (3, 1, 2, 0) ⨾ (1, 0, 0, 0) ⨾ (6, 3, 4, 0) ⨾ (33, 2, 5, 0) ⨾ (16, 0, 0, 0) ⨾ (48, 0, 6, 7) ⨾ []

-- v2 := (1 div 0) + (v1 + v1)
abbrev pub zero_then_big : List ℤ
zero_then_big =
    (16, 0, 0, 0) ⨾ (1, 1, 0, 0) ⨾ (1, 0, 0, 0) ⨾ (6, 1, 2, 0) ⨾ (2, 1, 0, 0) ⨾ (2, 1, 0, 0) ⨾ (3, 4, 5, 0) ⨾ (3, 3, 6, 0) ⨾ (33, 2, 7, 0)
    ⨾ (16, 0, 0, 0) ⨾ (48, 0, 8, 9) ⨾ []

-- v2 := (v1 + v1) - v1
abbrev pub big_between : List ℤ
big_between =
    (16, 0, 0, 0) ⨾ (2, 1, 0, 0) ⨾ (2, 1, 0, 0) ⨾ (3, 1, 2, 0) ⨾ (2, 1, 0, 0) ⨾ (4, 3, 4, 0) ⨾ (33, 2, 5, 0) ⨾ (16, 0, 0, 0) ⨾ (48, 0, 6, 7) ⨾ []

-- v2 := choose(true, 1, v1 + v1)
abbrev pub big_not_chosen : List ℤ
big_not_chosen =
    (16, 0, 0, 0) ⨾ (16, 0, 0, 0) ⨾ (1, 1, 0, 0) ⨾ (2, 1, 0, 0) ⨾ (2, 1, 0, 0) ⨾ (3, 3, 4, 0) ⨾ (10, 1, 2, 5) ⨾ (33, 2, 6, 0) ⨾ (16, 0, 0, 0)
    ⨾ (48, 0, 7, 8) ⨾ []

-- assert false and v1 + v1 < 0
abbrev pub big_after_false : List ℤ
big_after_false =
    (16, 0, 0, 0) ⨾ (17, 0, 0, 0) ⨾ (2, 1, 0, 0) ⨾ (2, 1, 0, 0) ⨾ (3, 2, 3, 0) ⨾ (1, 0, 0, 0) ⨾ (18, 4, 5, 0) ⨾ (23, 1, 6, 0) ⨾ (38, 7, 0, 0)
    ⨾ (16, 0, 0, 0) ⨾ (48, 0, 8, 9) ⨾ []

-- assert 1 div 0 = 0
abbrev pub zero_asserted : List ℤ
zero_asserted =
    (16, 0, 0, 0) ⨾ (1, 1, 0, 0) ⨾ (1, 0, 0, 0) ⨾ (6, 1, 2, 0) ⨾ (1, 0, 0, 0) ⨾ (20, 3, 4, 0) ⨾ (38, 5, 0, 0) ⨾ (16, 0, 0, 0) ⨾ (48, 0, 6, 7) ⨾ []

-- while false keep true fall v1 + v1 do skip
abbrev pub big_variant : List ℤ
big_variant =
    (16, 0, 0, 0) ⨾ (17, 0, 0, 0) ⨾ (16, 0, 0, 0) ⨾ (2, 1, 0, 0) ⨾ (2, 1, 0, 0) ⨾ (3, 3, 4, 0) ⨾ (37, 2, 5, 0) ⨾ (32, 0, 0, 0) ⨾ (36, 1, 6, 7)
    ⨾ (16, 0, 0, 0) ⨾ (48, 0, 8, 9) ⨾ []

-- while true keep true fall v1 + v1 do skip
abbrev pub big_pass : List ℤ
big_pass =
    (16, 0, 0, 0) ⨾ (16, 0, 0, 0) ⨾ (16, 0, 0, 0) ⨾ (2, 1, 0, 0) ⨾ (2, 1, 0, 0) ⨾ (3, 3, 4, 0) ⨾ (37, 2, 5, 0) ⨾ (32, 0, 0, 0) ⨾ (36, 1, 6, 7)
    ⨾ (16, 0, 0, 0) ⨾ (48, 0, 8, 9) ⨾ []

-- v2 := (-v1 - v1) div -1
abbrev pub lowest_divided : List ℤ
lowest_divided =
    (16, 0, 0, 0) ⨾ (2, 1, 0, 0) ⨾ (8, 1, 0, 0) ⨾ (2, 1, 0, 0) ⨾ (4, 2, 3, 0) ⨾ (1, 1, 0, 0) ⨾ (8, 5, 0, 0) ⨾ (6, 4, 6, 0) ⨾ (33, 2, 7, 0)
    ⨾ (16, 0, 0, 0) ⨾ (48, 0, 8, 9) ⨾ []

-- if true then v0 := 1 else skip
abbrev pub one_branch : List ℤ
one_branch =
    (16, 0, 0, 0) ⨾ (16, 0, 0, 0) ⨾ (1, 1, 0, 0) ⨾ (33, 0, 2, 0) ⨾ (32, 0, 0, 0) ⨾ (35, 1, 3, 4) ⨾ (16, 0, 0, 0) ⨾ (48, 0, 5, 6) ⨾ []

-- assert false; skip
abbrev pub false_first : List ℤ
false_first =
    (16, 0, 0, 0) ⨾ (17, 0, 0, 0) ⨾ (38, 1, 0, 0) ⨾ (32, 0, 0, 0) ⨾ (34, 2, 3, 0) ⨾ (16, 0, 0, 0) ⨾ (48, 0, 4, 5) ⨾ []

-- skip, with the postcondition false
abbrev pub false_at_the_end : List ℤ
false_at_the_end = (16, 0, 0, 0) ⨾ (32, 0, 0, 0) ⨾ (17, 0, 0, 0) ⨾ (48, 0, 1, 2) ⨾ []
