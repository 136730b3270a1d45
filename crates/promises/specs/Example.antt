-- Reference 4.4: the example, four words over nine records, and what its questions are put together from.
use Rattle.std.specs.Prelude.{ℕ, List, [], ◌∷◌, ◌++◌}

abbrev pub boats : List ℕ
boats = 98 ∷ 111 ∷ 97 ∷ 116 ∷ 115 ∷ []

abbrev pub harbour : List ℕ
harbour = 104 ∷ 97 ∷ 114 ∷ 98 ∷ 111 ∷ 117 ∷ 114 ∷ []

abbrev pub maps : List ℕ
maps = 109 ∷ 97 ∷ 112 ∷ 115 ∷ []

abbrev pub tide : List ℕ
tide = 116 ∷ 105 ∷ 100 ∷ 101 ∷ []

-- Reference 10: of the seven questions ` and `, ` or `, ` not `, and two words that the example lacks
abbrev pub and' : List ℕ
and' = 32 ∷ 97 ∷ 110 ∷ 100 ∷ 32 ∷ []

abbrev pub or' : List ℕ
or' = 32 ∷ 111 ∷ 114 ∷ 32 ∷ []

abbrev pub not' : List ℕ
not' = 32 ∷ 110 ∷ 111 ∷ 116 ∷ 32 ∷ []

abbrev pub tables : List ℕ
tables = 116 ∷ 97 ∷ 98 ∷ 108 ∷ 101 ∷ 115 ∷ []

abbrev pub pier : List ℕ
pier = 112 ∷ 105 ∷ 101 ∷ 114 ∷ []

-- Reference 4.1: cells whose numbers are below 256
abbrev pub small : List ℕ → List ℕ
small [] = []
small (x ∷ xs) = x ∷ 0 ∷ 0 ∷ 0 ∷ small xs

-- Reference 4.4: its 172 bytes, the lists, the words, the directory and the trailer
abbrev pub example : List ℕ
example =
    small (8 ∷ 2 ∷ 4 ∷ 1 ∷ 6 ∷ 3 ∷ 7 ∷ 9 ∷ 5 ∷ 7 ∷ 3 ∷ 8 ∷ 9 ∷ [])
    ++ (boats ++ (harbour ++ (maps ++ (tide
    ++ small
    (
    52 ∷ 5 ∷ 0 ∷ 1 ∷ 1 ∷
    57 ∷ 7 ∷ 12 ∷ 0 ∷ 2 ∷
    64 ∷ 4 ∷ 28 ∷ 1 ∷ 1 ∷
    68 ∷ 4 ∷ 40 ∷ 1 ∷ 1 ∷
    52 ∷ 72 ∷ 4 ∷ 9 ∷ 1 ∷ [])))))

-- Reference 2: `AND`, and a sound index of 76 bytes that holds it: `AND` in record 1, `b` in 2 and 3
abbrev pub capitals : List ℕ
capitals = 65 ∷ 78 ∷ 68 ∷ []

abbrev pub holding : List ℕ
holding = small (1 ∷ 2 ∷ 3 ∷ []) ++ (capitals ++ (98 ∷ small (12 ∷ 3 ∷ 0 ∷ 1 ∷ 0 ∷ 15 ∷ 1 ∷ 4 ∷ 0 ∷ 1 ∷ 12 ∷ 16 ∷ 2 ∷ 3 ∷ 1 ∷ [])))
