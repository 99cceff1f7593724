-- Texts with the answers of an independent reading of 02, P4: spread over blanks of each sort, with groups that
-- change nothing, and with one thing wrong. A statement that the prover settles by computing the definitions. Assumes
-- nothing.
use Rattle.std.specs.Prelude.{refl, List, [], ◌∷◌}
use Rattle.script.specs.Computed.{◌⨾◌}
use Rattle.grammar.specs.Scanning.{bytes, token_at, scan_from, scan}
use Rattle.grammar.specs.Counts.{size, roots}
use Rattle.grammar.specs.Rows.{table}
use Rattle.grammar.specs.Meaning.{flat, text_rows, text_table}
use Rattle.grammar.specs.Automaton.{reduce}
use Rattle.grammar.specs.Reader.{read}
use Rattle.grammar.specs.Ranges.{depth}
use Rattle.grammar.specs.Outcome.{refused, given, out_of_range, outcome, stuck}
use Rattle.text_claims.specs.Figures.{Figure, Holds, negative, n, v, true_row, false_row, skip_row}

recorded : List Figure
recorded = (
  400,
  bytes "pre\r\n0<=v0; \t while\n0<v0\tkeep  0\r\n<=  v0 \t fall\r\nv0 \t do v2\t:= \t 3\t;\r\nwhile\t(0\t) <\nv2 keep(  0)\n<= \t v2  and  0<\r\nv0\r\nand(v0)=\n(mark \t (1)\n)\r\nfall v2  do  v2:=v2-\r\n1end; v0  :=v0 \t -1  end\t;post\r\nv0  = \t 0",
  given (n 0 ⨾ v 0 ⨾ (19, 0, 1, 0) ⨾ n 0 ⨾ v 0 ⨾ (18, 3, 4, 0) ⨾ n 0 ⨾ v 0 ⨾ (19, 6, 7, 0) ⨾ v 0 ⨾
      (37, 8, 9, 0) ⨾ n 3 ⨾ (33, 2, 11, 0) ⨾ n 0 ⨾ v 2 ⨾ (18, 13, 14, 0) ⨾ n 0 ⨾ v 2 ⨾ (19, 16, 17, 0) ⨾ n 0 ⨾ v 0 ⨾
      (18, 19, 20, 0) ⨾ (23, 18, 21, 0) ⨾ v 0 ⨾ (9, 40, 0, 0) ⨾ (20, 23, 24, 0) ⨾ (23, 22, 25, 0) ⨾ v 2 ⨾
      (37, 26, 27, 0) ⨾ v 2 ⨾ n 1 ⨾ (4, 29, 30, 0) ⨾ (33, 2, 31, 0) ⨾ (36, 15, 28, 32) ⨾ v 0 ⨾ n 1 ⨾
      (4, 34, 35, 0) ⨾ (33, 0, 36, 0) ⨾ (34, 33, 37, 0) ⨾ (34, 12, 38, 0) ⨾ (36, 5, 10, 39) ⨾ v 0 ⨾ n 0 ⨾
      (20, 41, 42, 0) ⨾ (48, 2, 40, 43) ⨾ []),
)
    ∷ (
      400,
      bytes "pre\ntrue; \t v257\t:=when(false , \t v257\r\n,3 );v257:=v257;while v257=\tv257*\t2keep  not \t - 3\n+\n( \t v257\t+v257  ) <>v257\r\nfall  v257\r\ndo assert\nnot-1  <> \t when((\tfalse)\t,  - \t 3\n, \t v257\t)\tend;  post \t when(true, \t v257,\nv257\n)<>(\nv257 ) * \t v257",
      given (true_row ⨾ false_row ⨾ v 257 ⨾ n 3 ⨾ (10, 1, 2, 3) ⨾ (33, 257, 4, 0) ⨾ v 257 ⨾ (33, 257, 6, 0) ⨾
          v 257 ⨾ v 257 ⨾ n 2 ⨾ (5, 9, 10, 0) ⨾ (20, 8, 11, 0) ⨾ negative 3 (v 257 ⨾ v 257 ⨾ (3, 14, 15, 0) ⨾
          (3, 13, 16, 0) ⨾ v 257 ⨾ (21, 17, 18, 0) ⨾ (22, 19, 0, 0) ⨾ v 257 ⨾ (37, 20, 21, 0) ⨾ negative 1 (false_row ⨾
          negative 3 (v 257 ⨾ (10, 24, 25, 26) ⨾ (21, 23, 27, 0) ⨾ (22, 28, 0, 0) ⨾ (38, 29, 0, 0) ⨾ (36, 12, 22, 30) ⨾
          (34, 7, 31, 0) ⨾ (34, 5, 32, 0) ⨾ true_row ⨾ v 257 ⨾ v 257 ⨾ (10, 34, 35, 36) ⨾ v 257 ⨾ v 257 ⨾
          (5, 38, 39, 0) ⨾ (21, 37, 40, 0) ⨾ (48, 0, 33, 41) ⨾ [])))),
    )
    ∷ (
      400,
      bytes "pre 0<=v5;\twhile  0<v5\nkeep \t 0<=  v5 \t fall  v5  do\nassert\nv5=\r\nmark\r\n(\r\n1)\t; v5:=v5-\r\n1  end;post\nv5=0\n",
      given (n 0 ⨾ v 5 ⨾ (19, 0, 1, 0) ⨾ n 0 ⨾ v 5 ⨾ (18, 3, 4, 0) ⨾ n 0 ⨾ v 5 ⨾ (19, 6, 7, 0) ⨾ v 5 ⨾
          (37, 8, 9, 0) ⨾ v 5 ⨾ (9, 20, 0, 0) ⨾ (20, 11, 12, 0) ⨾ (38, 13, 0, 0) ⨾ v 5 ⨾ n 1 ⨾ (4, 15, 16, 0) ⨾
          (33, 5, 17, 0) ⨾ (34, 14, 18, 0) ⨾ (36, 5, 10, 19) ⨾ v 5 ⨾ n 0 ⨾ (20, 21, 22, 0) ⨾ (48, 2, 20, 23) ⨾ []),
    )
    ∷ (
      400,
      bytes "\npre 0<=v1; \t while\n0\t<v1\nkeep\n0 \t <=\r\nv1 fall\tv1  do  v5 :=\n0;while\n0  <v5\nkeep \t 0<=v5 and\r\n0<v1\tand\tv1  =( \t mark \t (1\t)\t)fall\tv5 do \t v5 := \t v5  -1end;v1 :=v1\t-1\nend;\r\npost\r\n( v1)=  ( \t 0)",
      given (n 0 ⨾ v 1 ⨾ (19, 0, 1, 0) ⨾ n 0 ⨾ v 1 ⨾ (18, 3, 4, 0) ⨾ n 0 ⨾ v 1 ⨾ (19, 6, 7, 0) ⨾ v 1 ⨾
          (37, 8, 9, 0) ⨾ n 0 ⨾ (33, 5, 11, 0) ⨾ n 0 ⨾ v 5 ⨾ (18, 13, 14, 0) ⨾ n 0 ⨾ v 5 ⨾ (19, 16, 17, 0) ⨾ n 0 ⨾ v 1 ⨾
          (18, 19, 20, 0) ⨾ (23, 18, 21, 0) ⨾ v 1 ⨾ (9, 40, 0, 0) ⨾ (20, 23, 24, 0) ⨾ (23, 22, 25, 0) ⨾ v 5 ⨾
          (37, 26, 27, 0) ⨾ v 5 ⨾ n 1 ⨾ (4, 29, 30, 0) ⨾ (33, 5, 31, 0) ⨾ (36, 15, 28, 32) ⨾ v 1 ⨾ n 1 ⨾
          (4, 34, 35, 0) ⨾ (33, 1, 36, 0) ⨾ (34, 33, 37, 0) ⨾ (34, 12, 38, 0) ⨾ (36, 5, 10, 39) ⨾ v 1 ⨾ n 0 ⨾
          (20, 41, 42, 0) ⨾ (48, 2, 40, 43) ⨾ []),
    )
    ∷ (
      400,
      bytes "pre  0\t<=v1 ;while 0<  v1 \t keep\n0<=v1 \t fall\nv1  do\tv2 :=(\t2);  while\n0\r\n<  v2\nkeep(\r\n0<=  v2)\nand\t0 \t <\tv1 \t and \t v1\n=\tmark(\n1) fall\r\nv2  do v2\n:=v2\t-1end; v1 \t :=v1-\r\n1 \t end;  post\r\nv1 \t =0\n",
      given (n 0 ⨾ v 1 ⨾ (19, 0, 1, 0) ⨾ n 0 ⨾ v 1 ⨾ (18, 3, 4, 0) ⨾ n 0 ⨾ v 1 ⨾ (19, 6, 7, 0) ⨾ v 1 ⨾
          (37, 8, 9, 0) ⨾ n 2 ⨾ (33, 2, 11, 0) ⨾ n 0 ⨾ v 2 ⨾ (18, 13, 14, 0) ⨾ n 0 ⨾ v 2 ⨾ (19, 16, 17, 0) ⨾ n 0 ⨾ v 1 ⨾
          (18, 19, 20, 0) ⨾ (23, 18, 21, 0) ⨾ v 1 ⨾ (9, 40, 0, 0) ⨾ (20, 23, 24, 0) ⨾ (23, 22, 25, 0) ⨾ v 2 ⨾
          (37, 26, 27, 0) ⨾ v 2 ⨾ n 1 ⨾ (4, 29, 30, 0) ⨾ (33, 2, 31, 0) ⨾ (36, 15, 28, 32) ⨾ v 1 ⨾ n 1 ⨾
          (4, 34, 35, 0) ⨾ (33, 1, 36, 0) ⨾ (34, 33, 37, 0) ⨾ (34, 12, 38, 0) ⨾ (36, 5, 10, 39) ⨾ v 1 ⨾ n 0 ⨾
          (20, 41, 42, 0) ⨾ (48, 2, 40, 43) ⨾ []),
    )
    ∷ (
      400,
      bytes "pre\nv257\r\n*v63<  -  3\tmod-2\t;while\nv512<(v3)keep\r\nnot\r\nv256-v1<>  v1023\r\nfall (\n-2 \t +(v3))*\r\nv1023  do v1:=5  end;assert\nv63  < \t 2;  post \t true",
      given (v 257 ⨾ v 63 ⨾ (5, 0, 1, 0) ⨾ negative 3 (negative 2 ((7, 3, 4, 0) ⨾ (18, 2, 5, 0) ⨾ v 512 ⨾ v 3 ⨾
          (18, 7, 8, 0) ⨾ v 256 ⨾ v 1 ⨾ (4, 10, 11, 0) ⨾ v 1023 ⨾ (21, 12, 13, 0) ⨾ (22, 14, 0, 0) ⨾ negative 2 (v 3 ⨾
          (3, 16, 17, 0) ⨾ v 1023 ⨾ (5, 18, 19, 0) ⨾ (37, 15, 20, 0) ⨾ n 5 ⨾ (33, 1, 22, 0) ⨾ (36, 9, 21, 23) ⨾ v 63 ⨾
          n 2 ⨾ (18, 25, 26, 0) ⨾ (38, 27, 0, 0) ⨾ (34, 24, 28, 0) ⨾ true_row ⨾ (48, 6, 29, 30) ⨾ [])))),
    )
    ∷ (
      400,
      bytes "pre\n0=v2;assert  v2 -  v256= v2\n-v256\t; v2:= \t -(\n(-2+ \t 0) div (-\r\n1mod \t v256  )\n)mod ((2 \t )*(\r\n-\n2147483647)*v2)  ;\npost  true\n",
      given (n 0 ⨾ v 2 ⨾ (20, 0, 1, 0) ⨾ v 2 ⨾ v 256 ⨾ (4, 3, 4, 0) ⨾ v 2 ⨾ v 256 ⨾ (4, 6, 7, 0) ⨾ (20, 5, 8, 0) ⨾
          (38, 9, 0, 0) ⨾ negative 2 (n 0 ⨾ (3, 11, 12, 0) ⨾ negative 1 (v 256 ⨾ (7, 14, 15, 0) ⨾ (6, 13, 16, 0) ⨾
          (8, 17, 0, 0) ⨾ n 2 ⨾ negative 2147483647 ((5, 19, 20, 0) ⨾ v 2 ⨾ (5, 21, 22, 0) ⨾ (7, 18, 23, 0) ⨾
          (33, 2, 24, 0) ⨾ (34, 10, 25, 0) ⨾ true_row ⨾ (48, 2, 26, 27) ⨾ [])))),
    )
    ∷ (
      400,
      bytes "pre  0<=\tv1;while 0 \t < v1 \t keep \t ( \t 0<=v1) \t fall v1  do\nassert\nv1=mark\t(1 \t );v1:=v1 -\n1 end; \t post\n(v1\r\n)=\r\n0\n",
      given (n 0 ⨾ v 1 ⨾ (19, 0, 1, 0) ⨾ n 0 ⨾ v 1 ⨾ (18, 3, 4, 0) ⨾ n 0 ⨾ v 1 ⨾ (19, 6, 7, 0) ⨾ v 1 ⨾
          (37, 8, 9, 0) ⨾ v 1 ⨾ (9, 20, 0, 0) ⨾ (20, 11, 12, 0) ⨾ (38, 13, 0, 0) ⨾ v 1 ⨾ n 1 ⨾ (4, 15, 16, 0) ⨾
          (33, 1, 17, 0) ⨾ (34, 14, 18, 0) ⨾ (36, 5, 10, 19) ⨾ v 1 ⨾ n 0 ⨾ (20, 21, 22, 0) ⨾ (48, 2, 20, 23) ⨾ []),
    )
    ∷ (
      400,
      bytes "\npre \t v3< \t 4 ;v0:=v63 \t -v256;post  v0\t<v63",
      given (v 3 ⨾ n 4 ⨾ (18, 0, 1, 0) ⨾ v 63 ⨾ v 256 ⨾ (4, 3, 4, 0) ⨾ (33, 0, 5, 0) ⨾ v 0 ⨾ v 63 ⨾ (18, 7, 8, 0) ⨾
          (48, 2, 6, 9) ⨾ []),
    )
    ∷ (
      400,
      bytes "pre  (true);while\n(\tv127<\n(v0 \t ))\r\nkeep\ntrue\tfall\r\nv0-v127 \t do skip; \t v127:=\nv127 \t +1end;\r\npost  v0<=  v127 ",
      given (true_row ⨾ v 127 ⨾ v 0 ⨾ (18, 1, 2, 0) ⨾ true_row ⨾ v 0 ⨾ v 127 ⨾ (4, 5, 6, 0) ⨾ (37, 4, 7, 0) ⨾
          skip_row ⨾ v 127 ⨾ n 1 ⨾ (3, 10, 11, 0) ⨾ (33, 127, 12, 0) ⨾ (34, 9, 13, 0) ⨾ (36, 3, 8, 14) ⨾ v 0 ⨾ v 127 ⨾
          (19, 16, 17, 0) ⨾ (48, 0, 15, 18) ⨾ []),
    )
    ∷ (
      400,
      bytes "\npre\ttrue; while v5< \t v2\tkeep\ttrue fall\r\nv2\n-  v5\tdo  skip\t; \t v5:=  (  v5+(1\n))\r\nend \t ;\r\npost\r\nv2<=v5 ",
      given (true_row ⨾ v 5 ⨾ v 2 ⨾ (18, 1, 2, 0) ⨾ true_row ⨾ v 2 ⨾ v 5 ⨾ (4, 5, 6, 0) ⨾ (37, 4, 7, 0) ⨾ skip_row ⨾
          v 5 ⨾ n 1 ⨾ (3, 10, 11, 0) ⨾ (33, 5, 12, 0) ⨾ (34, 9, 13, 0) ⨾ (36, 3, 8, 14) ⨾ v 2 ⨾ v 5 ⨾ (19, 16, 17, 0) ⨾
          (48, 0, 15, 18) ⨾ []),
    )
    ∷ (
      400,
      bytes " pre  v63  <  v200\t;while\tv3<5keep\t(  v1)\t<  v3\r\nfall v63+v257\r\ndo\nv63:=when \t ( true,  3,  v256)end\t; post\nv63 <=  v256",
      given (v 63 ⨾ v 200 ⨾ (18, 0, 1, 0) ⨾ v 3 ⨾ n 5 ⨾ (18, 3, 4, 0) ⨾ v 1 ⨾ v 3 ⨾ (18, 6, 7, 0) ⨾ v 63 ⨾ v 257 ⨾
          (3, 9, 10, 0) ⨾ (37, 8, 11, 0) ⨾ true_row ⨾ n 3 ⨾ v 256 ⨾ (10, 13, 14, 15) ⨾ (33, 63, 16, 0) ⨾
          (36, 5, 12, 17) ⨾ v 63 ⨾ v 256 ⨾ (19, 19, 20, 0) ⨾ (48, 2, 18, 21) ⨾ []),
    )
    ∷ (
      400,
      bytes "\npre\nv3<>  v128;  v0\n:=  when\t(true,2\r\n,0)  ;\tpost v126\t<> 0\n",
      given (v 3 ⨾ v 128 ⨾ (21, 0, 1, 0) ⨾ true_row ⨾ n 2 ⨾ n 0 ⨾ (10, 3, 4, 5) ⨾ (33, 0, 6, 0) ⨾ v 126 ⨾ n 0 ⨾
          (21, 8, 9, 0) ⨾ (48, 2, 7, 10) ⨾ []),
    )
    ∷ (
      100,
      bytes " pre\r\nv2=\tv255;\tv1000\r\n:=- \t v257;\tpost\r\n-  3<>v2 *\t(v0+\r\nv255  ) ",
      given (v 2 ⨾ v 255 ⨾ (20, 0, 1, 0) ⨾ v 257 ⨾ (8, 3, 0, 0) ⨾ (33, 1000, 4, 0) ⨾ negative 3 (v 2 ⨾ v 0 ⨾ v 255 ⨾
          (3, 8, 9, 0) ⨾ (5, 7, 10, 0) ⨾ (21, 6, 11, 0) ⨾ (48, 2, 5, 12) ⨾ [])),
    )
    ∷ (0, bytes " pre(v1023 )  <\t5; if  4  <\r\nv1 \t then\r\nif \t v257\r\n= -\n3\r\nthen  v127:=v63  else skip \t end  else\tskip\tend\r\n;post v1000=v257 ", refused 43 0)
    ∷ (0, bytes "\npre when( false\n,v1023, \t v1)\t<=\nv1  and\tv254  <=\tv126; \t v1023:=  -1 +v512 ;post\tv512  <  v254", refused 43 0)
    ∷ (0, bytes "\npre(v257  <\nv0\n)\r\nimplies \t v3=v0\r\n*  v256;if( v1000=( v1))then  skip else \t v0  :=v1 \t end\r\n; \t post false", refused 43 0)
    ∷ (40, bytes " pre\r\n(v1000\r\n)<=v63\r\n;v2:=\r\n(\nv257)  div  v63  ;v257:=\nv257  div  3; \t post \t 5  <>v1000  or \t 5< \t 4 \t +\tv129 ", refused 43 0)
    ∷ (400, bytes "\npre\tv99999999999<= \t ( \t 0 );skip\t; post true ", refused 42 5)
    ∷ (100, bytes " pre\t-\n(99999999999999999999-\r\n(v63) \t )<> \t v1000+ \t 0;v2\t:=\tv257\n;\npost  when(true, v256 \t ,\r\n4\r\n)=v257\n+v257", refused 42 8)
    ∷ (400, bytes "pre\t99999999999999999999\t<=  v2;skip; \t post\r\ntrue\n", refused 42 4)
    ∷ (40, bytes "pre\n(  (v2)  <>\tv99999999999  implies \t false)and\tfalse  ; v2:=  v127+\nv2\n; \t post  true ", refused 42 16)
    ∷ (40, bytes "pre  v2\r\n=v00\tor\r\nv1=v126;\nskip; post\t(  ( v63\t)<=v2\r\n)\n", refused 42 10)
    ∷ (400, bytes "pre v99999999999<>\t(\r\n- \t 2);v0\r\n:=\twhen (true,v1023 ,  3);  post\ttrue", refused 42 4)
    ∷ (400, bytes "pre \t v126\r\n= v127; assert\nv129\tmod- \t 1=01 \t ;  post\nfalse", refused 42 41)
    ∷ (400, bytes "\npre(\tfalse  )\r\n;v256\n:=\nv00;\tskip ;v127 \t :=when  (\ttrue \t ,\r\nv1000 ,\nv127 \t ); \t skip\r\n; \t post\tv256<=\n2", refused 42 25)
    ∷ (0, bytes "pre \t v2  <v1023;\nv1024:=\t0  ; \t skip;skip;(post v2<>  2\nimplies true \t )\r\nimplies \t true", refused 41 43)
    ∷ (400, bytes "pre \t v0 \t <> \t v1023 ;  v0  <= v257 \t keep v257 \t < \t v1023  fall\nv257\ndo\r\nv257 :=\nv1023 end\t; \t post\r\n3<v257", refused 41 29)
    ∷ (400, bytes "pre\r\nv2 \t < v127;v2 :=v1000\t; v3:= \t (v127\r\ndiv\t-2)  ;  skip;\tskip\n;v257-\n(\r\nv1023\n- \t - 2147483647\n)\n;post\t(v127\n<>v1023)", refused 41 72)
    ∷ (400, bytes "pre\ntrue\r\n;v3\t:=-\r\n(v3\r\n*3\r\n2147483647  ;post- 1\r\n<> \t v0", refused 41 28)
    ∷ (100, bytes " pre\nv255 and\nv3 -2;skip \t ;  post\n(\r\nfalse\timplies-\n2<=v1 )<>\tv256<  4", refused 41 10)
    ∷ (40, bytes "\npre\t(when\r\n(true  ,3,\nv127\n)<>- 2);\tassert \t 0 \t <=v2;v2  :=\tv127\r\n;\npost\t*\n2=v1 ", refused 41 75)
    ∷ (100, bytes "\npre true;\tv127\r\n:=  v0\tv257 2\n+- 2*-; post  ( true)", refused 41 24)
    ∷ (0, bytes " pre\r\ntrue;  while  (v1<v127 \t )keep(\ttrue\n)  fall\r\n( v127-\r\nv1  ) +skip; v1:=( v1)\ndo \t 1end  ;  post\nv127<=v1", refused 41 68)
    ∷ (40, bytes "<>\r\nv1000\t<=\tv257;skip;post v257\npre\tv2 ", refused 41 0)
    ∷ (0, bytes "pre  v1000=1 ;v127:=3div\nv1000 \t ;assert true\n;  post v129\n", refused 41 59)
    ∷ (100, bytes "\npre \t v1023\n-(\nv1023)\n", refused 41 23)
    ∷ (400, bytes "pre\r\n-\r\n1<>v256 implies\r\nv127<>  )  ; \t v2:= --\t2 \t ;v127\t:=7- ( v127)\r\n; v127:=v2\r\n;post\r\nv127  <=v200 ", refused 41 33)
    ∷ (400, bytes "\npre\r\ntrue\n;while  v2<\tv5 end1\nkeep\ntrue\nfall\nv5\r\npost  v2  do \t skip;\tv2\nmod\r\nv00(v2\n+\t1)\nend;\n-v5<=  v2 ", refused 40 26)
    ∷ (400, bytes " pre\n(true); v0\t:=v127\ndiv v256\t;\tv0v1\tassert\n3<= \t 0; \t v1:=(5 );post\ntrue", refused 40 34)
    ∷ (400, bytes "\npre\nv257\tdiv- \t ( -\t1*v127\tSkip\n)=-3;v1000", refused 40 28)
    ∷ (400, bytes " pre\r\n2<=v1; \t v1  :=\t-(v1) \t +10+1;post \t v\t2147483647<>-\t2", refused 40 43)
    ∷ (40, bytes "\npre\nv1000\n<>\r\n&  (\tv256 \t );v63  :=  -\n2\t+v256;\r\npost\r\n0=v63 ", refused 40 15)
    ∷ (400, bytes "pre true[\n;v63:=  v2\r\nv01\nv0  :=v257\n;post true", refused 40 8)
    ∷ (0, bytes "\npre( \t v3+2147483649+  v63\n<\nv1000);\nSkip skip \t ;post true ", refused 40 38)
    ∷ (0, bytes "pre<> v1\tskipx ;v1000 \t :=5*(\tv257\tdiv \t v1023\t) ;\r\npost\r\nv128\r\n<=-2 ", refused 40 9)
    ∷ []

recorded_hold : Holds recorded
unfolding recorded ◌⨾◌ outcome scan scan_from token_at stuck out_of_range read reduce depth text_table text_rows table size roots flat
recorded_hold = refl
