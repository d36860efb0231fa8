-- Reading coded texts along the tree of the code's words. What it reads is the text of the code, and nothing
-- else is: `huff_decode` says so of the code alone.
use Rattle.std.specs.Prelude.{◌≡◌, ℕ, ◌-◌, nat_lt, Bool, false, if◌then◌else◌, List, [], ◌∷◌, ◌++◌, Result, Ok, Err, slice_index, slice_index_or, ◌/◌, ◌%◌}
use Rattle.hpack.specs.declared.fault.HpackFault.{HpackFault}
use Rattle.hpack.specs.declared.fault.HpackFault.TheVariants as faults
use Rattle.hpack.specs.Huffman.{bits_of}
use Rattle.hpack.specs.Outcomes.{IsPaddingFault}

-- Where a bit leads: to a node of the tree, to the end of a symbol's word, or to the end of a string. A number
-- below 256 is a node, 256 more than a symbol is that symbol, and 512 is the end.
pub data Branch : Type 0 where
  Node : ℕ → Branch
  Symbol : ℕ → Branch
  End : Branch

abbrev pub branch_of : ℕ → Branch
branch_of k = if nat_lt k 256 then Node k else if nat_lt k 512 then Symbol (k - 256) else End

-- where a zero leads from each node, sixteen nodes a row; node 0 is the root, and node k is where k ones lead
abbrev pub on_zero : List (List ℕ)
on_zero =
    (30 ∷ 33 ∷ 40 ∷ 55 ∷ 76 ∷ 93 ∷ 96 ∷ 97 ∷ 100 ∷ 102 ∷ 104 ∷ 107 ∷ 108 ∷ 109 ∷ 379 ∷ 110 ∷ []) ∷
    (113 ∷ 120 ∷ 132 ∷ 149 ∷ 171 ∷ 190 ∷ 200 ∷ 209 ∷ 224 ∷ 240 ∷ 254 ∷ 505 ∷ 255 ∷ 278 ∷ 31 ∷ 34 ∷ []) ∷
    (36 ∷ 38 ∷ 41 ∷ 43 ∷ 45 ∷ 47 ∷ 49 ∷ 51 ∷ 53 ∷ 304 ∷ 306 ∷ 355 ∷ 361 ∷ 371 ∷ 56 ∷ 58 ∷ []) ∷
    (60 ∷ 62 ∷ 64 ∷ 66 ∷ 68 ∷ 70 ∷ 72 ∷ 74 ∷ 288 ∷ 301 ∷ 303 ∷ 308 ∷ 310 ∷ 312 ∷ 317 ∷ 351 ∷ []) ∷
    (356 ∷ 359 ∷ 364 ∷ 366 ∷ 370 ∷ 77 ∷ 79 ∷ 81 ∷ 83 ∷ 85 ∷ 87 ∷ 89 ∷ 91 ∷ 314 ∷ 323 ∷ 325 ∷ []) ∷
    (327 ∷ 329 ∷ 331 ∷ 333 ∷ 335 ∷ 337 ∷ 339 ∷ 341 ∷ 343 ∷ 362 ∷ 369 ∷ 375 ∷ 377 ∷ 94 ∷ 294 ∷ 300 ∷ []) ∷
    (344 ∷ 98 ∷ 289 ∷ 296 ∷ 319 ∷ 295 ∷ 380 ∷ 291 ∷ 105 ∷ 256 ∷ 320 ∷ 349 ∷ 350 ∷ 316 ∷ 111 ∷ 114 ∷ []) ∷
    (116 ∷ 118 ∷ 348 ∷ 464 ∷ 122 ∷ 124 ∷ 126 ∷ 128 ∷ 130 ∷ 384 ∷ 387 ∷ 440 ∷ 480 ∷ 133 ∷ 135 ∷ 137 ∷ []) ∷
    (139 ∷ 141 ∷ 143 ∷ 145 ∷ 147 ∷ 409 ∷ 423 ∷ 432 ∷ 435 ∷ 472 ∷ 483 ∷ 486 ∷ 151 ∷ 153 ∷ 155 ∷ 157 ∷ []) ∷
    (159 ∷ 161 ∷ 163 ∷ 165 ∷ 167 ∷ 169 ∷ 385 ∷ 389 ∷ 392 ∷ 410 ∷ 416 ∷ 420 ∷ 426 ∷ 434 ∷ 441 ∷ 443 ∷ []) ∷
    (446 ∷ 454 ∷ 488 ∷ 172 ∷ 174 ∷ 176 ∷ 178 ∷ 180 ∷ 182 ∷ 184 ∷ 186 ∷ 188 ∷ 257 ∷ 393 ∷ 395 ∷ 397 ∷ []) ∷
    (403 ∷ 406 ∷ 408 ∷ 413 ∷ 421 ∷ 424 ∷ 431 ∷ 438 ∷ 444 ∷ 453 ∷ 495 ∷ 192 ∷ 194 ∷ 196 ∷ 198 ∷ 265 ∷ []) ∷
    (400 ∷ 404 ∷ 427 ∷ 471 ∷ 492 ∷ 201 ∷ 203 ∷ 205 ∷ 207 ∷ 455 ∷ 490 ∷ 210 ∷ 212 ∷ 214 ∷ 216 ∷ 218 ∷ []) ∷
    (220 ∷ 222 ∷ 448 ∷ 456 ∷ 458 ∷ 466 ∷ 474 ∷ 494 ∷ 498 ∷ 511 ∷ 226 ∷ 228 ∷ 230 ∷ 232 ∷ 234 ∷ 236 ∷ []) ∷
    (238 ∷ 459 ∷ 467 ∷ 470 ∷ 478 ∷ 497 ∷ 501 ∷ 503 ∷ 506 ∷ 508 ∷ 510 ∷ 242 ∷ 244 ∷ 246 ∷ 248 ∷ 250 ∷ []) ∷
    (252 ∷ 258 ∷ 260 ∷ 262 ∷ 264 ∷ 268 ∷ 271 ∷ 273 ∷ 275 ∷ 277 ∷ 280 ∷ 282 ∷ 284 ∷ 286 ∷ 383 ∷ 266 ∷ []) ∷ []

-- where a one leads
abbrev pub on_one : List (List ℕ)
on_one =
    (1 ∷ 2 ∷ 3 ∷ 4 ∷ 5 ∷ 6 ∷ 7 ∷ 8 ∷ 9 ∷ 10 ∷ 11 ∷ 12 ∷ 13 ∷ 14 ∷ 15 ∷ 16 ∷ []) ∷
    (17 ∷ 18 ∷ 19 ∷ 20 ∷ 21 ∷ 22 ∷ 23 ∷ 24 ∷ 25 ∷ 26 ∷ 27 ∷ 28 ∷ 29 ∷ 512 ∷ 32 ∷ 35 ∷ []) ∷
    (37 ∷ 39 ∷ 42 ∷ 44 ∷ 46 ∷ 48 ∷ 50 ∷ 52 ∷ 54 ∷ 305 ∷ 353 ∷ 357 ∷ 367 ∷ 372 ∷ 57 ∷ 59 ∷ []) ∷
    (61 ∷ 63 ∷ 65 ∷ 67 ∷ 69 ∷ 71 ∷ 73 ∷ 75 ∷ 293 ∷ 302 ∷ 307 ∷ 309 ∷ 311 ∷ 313 ∷ 321 ∷ 354 ∷ []) ∷
    (358 ∷ 360 ∷ 365 ∷ 368 ∷ 373 ∷ 78 ∷ 80 ∷ 82 ∷ 84 ∷ 86 ∷ 88 ∷ 90 ∷ 92 ∷ 322 ∷ 324 ∷ 326 ∷ []) ∷
    (328 ∷ 330 ∷ 332 ∷ 334 ∷ 336 ∷ 338 ∷ 340 ∷ 342 ∷ 345 ∷ 363 ∷ 374 ∷ 376 ∷ 378 ∷ 95 ∷ 298 ∷ 315 ∷ []) ∷
    (346 ∷ 99 ∷ 290 ∷ 297 ∷ 101 ∷ 299 ∷ 103 ∷ 318 ∷ 106 ∷ 292 ∷ 347 ∷ 382 ∷ 381 ∷ 352 ∷ 112 ∷ 115 ∷ []) ∷
    (117 ∷ 119 ∷ 451 ∷ 121 ∷ 123 ∷ 125 ∷ 127 ∷ 129 ∷ 131 ∷ 386 ∷ 418 ∷ 450 ∷ 482 ∷ 134 ∷ 136 ∷ 138 ∷ []) ∷
    (140 ∷ 142 ∷ 144 ∷ 146 ∷ 148 ∷ 417 ∷ 428 ∷ 433 ∷ 465 ∷ 473 ∷ 485 ∷ 150 ∷ 152 ∷ 154 ∷ 156 ∷ 158 ∷ []) ∷
    (160 ∷ 162 ∷ 164 ∷ 166 ∷ 168 ∷ 170 ∷ 388 ∷ 390 ∷ 402 ∷ 412 ∷ 419 ∷ 425 ∷ 429 ∷ 437 ∷ 442 ∷ 445 ∷ []) ∷
    (452 ∷ 484 ∷ 489 ∷ 173 ∷ 175 ∷ 177 ∷ 179 ∷ 181 ∷ 183 ∷ 185 ∷ 187 ∷ 189 ∷ 391 ∷ 394 ∷ 396 ∷ 399 ∷ []) ∷
    (405 ∷ 407 ∷ 411 ∷ 414 ∷ 422 ∷ 430 ∷ 436 ∷ 439 ∷ 447 ∷ 487 ∷ 191 ∷ 193 ∷ 195 ∷ 197 ∷ 199 ∷ 398 ∷ []) ∷
    (401 ∷ 415 ∷ 462 ∷ 481 ∷ 493 ∷ 202 ∷ 204 ∷ 206 ∷ 208 ∷ 463 ∷ 491 ∷ 211 ∷ 213 ∷ 215 ∷ 217 ∷ 219 ∷ []) ∷
    (221 ∷ 223 ∷ 449 ∷ 457 ∷ 461 ∷ 469 ∷ 475 ∷ 496 ∷ 499 ∷ 225 ∷ 227 ∷ 229 ∷ 231 ∷ 233 ∷ 235 ∷ 237 ∷ []) ∷
    (239 ∷ 460 ∷ 468 ∷ 477 ∷ 479 ∷ 500 ∷ 502 ∷ 504 ∷ 507 ∷ 509 ∷ 241 ∷ 243 ∷ 245 ∷ 247 ∷ 249 ∷ 251 ∷ []) ∷
    (253 ∷ 259 ∷ 261 ∷ 263 ∷ 267 ∷ 270 ∷ 272 ∷ 274 ∷ 276 ∷ 279 ∷ 281 ∷ 283 ∷ 285 ∷ 287 ∷ 476 ∷ 269 ∷ []) ∷ []

unfoldable pub branch_at : ℕ → Bool → Branch
branch_at node bit = branch_of (slice_index (slice_index_or (if bit then on_one else on_zero) (node / 16) []) (node % 16))

abbrev pub on_branch : Branch → (ℕ → List ℕ × Branch) → List ℕ × Branch
on_branch (Node node) go_on = go_on node
on_branch (Symbol symbol) go_on = (symbol ∷ (go_on 0).0, (go_on 0).1)
on_branch End go_on = ([], End)

-- the text that the bits spell from a node on, and where they end
unfoldable pub walk : ℕ → List Bool → List ℕ × Branch
walk node [] = ([], Node node)
walk node (bit ∷ bits) = on_branch (branch_at node bit) (λ next. walk next bits)

-- a text may end at the nodes that fewer than eight ones lead to
abbrev pub is_end : Branch → Bool
is_end (Node node) = nat_lt node 8
is_end (Symbol symbol) = false
is_end End = false

abbrev pub text_of : List ℕ × Branch → Result (List ℕ) HpackFault
text_of found = if is_end found.1 then Ok found.0 else Err faults.Padding

unfoldable pub huffman_text : List ℕ → Result (List ℕ) HpackFault
huffman_text bytes = text_of (walk 0 (bits_of bytes))

-- ---- step by step

-- text that was read before
abbrev pub with_text : List ℕ → List ℕ × Branch → List ℕ × Branch
with_text text found = (text ++ found.0, found.1)

-- Some bits lead from a node to the next, whatever follows them, and add to the text; or no text begins with them.
abbrev pub StepsBy : List Bool → ℕ → List ℕ → Result ℕ HpackFault → List ℕ → Type 0
StepsBy front node old (Ok next) new = (rest : List Bool) → with_text old (walk node (front ++ rest)) ≡ with_text new (walk next rest)
StepsBy front node old (Err fault) new = IsPaddingFault fault ((rest : List Bool) → is_end (walk node (front ++ rest)).1 ≡ false)
