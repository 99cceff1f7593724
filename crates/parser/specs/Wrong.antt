-- What the machine does not leave of a text: wrong answers, each refuted at one text. Assumes nothing.
use Rattle.std.specs.Prelude.{◌≡◌, refl, pos, get_or, replicate}
use Prim.Native.String.{String}
use Rattle.grammar.specs.Scanning.{Scanned, no_token, lexemes, bytes, token_at, scan_from, scan}
use Rattle.grammar.specs.Numbers.{token_number, token_value}
use Rattle.parser.specs.Symbols.{holds, holes, makes, ends, binds, takes, begins, closes}
use Rattle.parser.specs.Machine.{Config, begin_count, begin_constant, begin_numeral, begin_variable, begin_assignment, begin_name, begin_leaf, begin_form, begin_word, begin, reduce, close_form, close_mark, open_body, next_place, close, push_infix, go_on, after, at_post, expect, take_part, take_after, take, start, run}

-- a stack of eight frames, and sixteen rows
abbrev before : Config
before = start (replicate 8 0) (replicate 64 (pos 0))

abbrev after_scan : Scanned → Config
after_scan (no_token p) = before
after_scan (lexemes ls) = run before ls

abbrev after_text : String → Config
after_text t = after_scan (scan (bytes t))

-- not has one part: its row, the third, has the row of that part alone
not_has_one_part : (get_or (after_text "pre true and not true;").words 9 (pos 0) ≡ pos 1)
    × (get_or (after_text "pre true and not true;").words 10 (pos 0) ≡ pos 0)
unfolding scan scan_from token_at token_number token_value holds holes makes ends binds takes begins closes begin_count begin_constant begin_numeral begin_variable begin_assignment begin_name begin_leaf begin_form begin_word begin reduce close_form close_mark open_body next_place close push_infix go_on after at_post expect take_part take_after take run
not_has_one_part = (refl, refl)

-- a body is open from its `do` on, and closed with its loop
body_closed : ((after_text "pre true; while true keep true fall 0 do skip").state.bodies ≡ 1)
    × ((after_text "pre true; while true keep true fall 0 do skip end;").state.bodies ≡ 0)
unfolding scan scan_from token_at token_number token_value holds holes makes ends binds takes begins closes begin_count begin_constant begin_numeral begin_variable begin_assignment begin_name begin_leaf begin_form begin_word begin reduce close_form close_mark open_body next_place close push_infix go_on after at_post expect take_part take_after take run
body_closed = (refl, refl)
