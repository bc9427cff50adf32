-- The tables of the decoder (document 01; the Rust's spec_tables.rs). Clauses are those of G.723.1 that the Rust names at the table and, where it differs, at its use.
use Rattle.std.specs.Prelude.{List, [], ◌∷◌, ℕ, ℤ, pos, negsuc}

-- one period of the cosine in 512 steps, in 16384ths (LSP_COSINE_LOOKUP_Q15; §2.5, used in §2.7)
unfoldable pub cosines : List ℤ
cosines =
    pos 16384 ∷ pos 16383 ∷ pos 16379 ∷ pos 16373 ∷ pos 16364 ∷ pos 16353 ∷ pos 16340 ∷ pos 16324 ∷ pos 16305 ∷ pos 16284 ∷ pos 16261 ∷ pos 16235 ∷ pos 16207 ∷ pos 16176 ∷ pos 16143 ∷ pos 16107 ∷
    pos 16069 ∷ pos 16029 ∷ pos 15986 ∷ pos 15941 ∷ pos 15893 ∷ pos 15843 ∷ pos 15791 ∷ pos 15736 ∷ pos 15679 ∷ pos 15619 ∷ pos 15557 ∷ pos 15493 ∷ pos 15426 ∷ pos 15357 ∷ pos 15286 ∷ pos 15213 ∷
    pos 15137 ∷ pos 15059 ∷ pos 14978 ∷ pos 14896 ∷ pos 14811 ∷ pos 14724 ∷ pos 14635 ∷ pos 14543 ∷ pos 14449 ∷ pos 14354 ∷ pos 14256 ∷ pos 14155 ∷ pos 14053 ∷ pos 13949 ∷ pos 13842 ∷ pos 13733 ∷
    pos 13623 ∷ pos 13510 ∷ pos 13395 ∷ pos 13279 ∷ pos 13160 ∷ pos 13039 ∷ pos 12916 ∷ pos 12792 ∷ pos 12665 ∷ pos 12537 ∷ pos 12406 ∷ pos 12274 ∷ pos 12140 ∷ pos 12004 ∷ pos 11866 ∷ pos 11727 ∷
    pos 11585 ∷ pos 11442 ∷ pos 11297 ∷ pos 11151 ∷ pos 11003 ∷ pos 10853 ∷ pos 10702 ∷ pos 10549 ∷ pos 10394 ∷ pos 10238 ∷ pos 10080 ∷ pos 9921 ∷ pos 9760 ∷ pos 9598 ∷ pos 9434 ∷ pos 9269 ∷
    pos 9102 ∷ pos 8935 ∷ pos 8765 ∷ pos 8595 ∷ pos 8423 ∷ pos 8250 ∷ pos 8076 ∷ pos 7900 ∷ pos 7723 ∷ pos 7545 ∷ pos 7366 ∷ pos 7186 ∷ pos 7005 ∷ pos 6823 ∷ pos 6639 ∷ pos 6455 ∷
    pos 6270 ∷ pos 6084 ∷ pos 5897 ∷ pos 5708 ∷ pos 5520 ∷ pos 5330 ∷ pos 5139 ∷ pos 4948 ∷ pos 4756 ∷ pos 4563 ∷ pos 4370 ∷ pos 4176 ∷ pos 3981 ∷ pos 3786 ∷ pos 3590 ∷ pos 3393 ∷
    pos 3196 ∷ pos 2999 ∷ pos 2801 ∷ pos 2603 ∷ pos 2404 ∷ pos 2205 ∷ pos 2006 ∷ pos 1806 ∷ pos 1606 ∷ pos 1406 ∷ pos 1205 ∷ pos 1005 ∷ pos 804 ∷ pos 603 ∷ pos 402 ∷ pos 201 ∷
    pos 0 ∷ negsuc 200 ∷ negsuc 401 ∷ negsuc 602 ∷ negsuc 803 ∷ negsuc 1004 ∷ negsuc 1204 ∷ negsuc 1405 ∷ negsuc 1605 ∷ negsuc 1805 ∷ negsuc 2005 ∷ negsuc 2204 ∷ negsuc 2403 ∷ negsuc 2602 ∷ negsuc 2800 ∷ negsuc 2998 ∷
    negsuc 3195 ∷ negsuc 3392 ∷ negsuc 3589 ∷ negsuc 3785 ∷ negsuc 3980 ∷ negsuc 4175 ∷ negsuc 4369 ∷ negsuc 4562 ∷ negsuc 4755 ∷ negsuc 4947 ∷ negsuc 5138 ∷ negsuc 5329 ∷ negsuc 5519 ∷ negsuc 5707 ∷ negsuc 5896 ∷ negsuc 6083 ∷
    negsuc 6269 ∷ negsuc 6454 ∷ negsuc 6638 ∷ negsuc 6822 ∷ negsuc 7004 ∷ negsuc 7185 ∷ negsuc 7365 ∷ negsuc 7544 ∷ negsuc 7722 ∷ negsuc 7899 ∷ negsuc 8075 ∷ negsuc 8249 ∷ negsuc 8422 ∷ negsuc 8594 ∷ negsuc 8764 ∷ negsuc 8934 ∷
    negsuc 9101 ∷ negsuc 9268 ∷ negsuc 9433 ∷ negsuc 9597 ∷ negsuc 9759 ∷ negsuc 9920 ∷ negsuc 10079 ∷ negsuc 10237 ∷ negsuc 10393 ∷ negsuc 10548 ∷ negsuc 10701 ∷ negsuc 10852 ∷ negsuc 11002 ∷ negsuc 11150 ∷ negsuc 11296 ∷ negsuc 11441 ∷
    negsuc 11584 ∷ negsuc 11726 ∷ negsuc 11865 ∷ negsuc 12003 ∷ negsuc 12139 ∷ negsuc 12273 ∷ negsuc 12405 ∷ negsuc 12536 ∷ negsuc 12664 ∷ negsuc 12791 ∷ negsuc 12915 ∷ negsuc 13038 ∷ negsuc 13159 ∷ negsuc 13278 ∷ negsuc 13394 ∷ negsuc 13509 ∷
    negsuc 13622 ∷ negsuc 13732 ∷ negsuc 13841 ∷ negsuc 13948 ∷ negsuc 14052 ∷ negsuc 14154 ∷ negsuc 14255 ∷ negsuc 14353 ∷ negsuc 14448 ∷ negsuc 14542 ∷ negsuc 14634 ∷ negsuc 14723 ∷ negsuc 14810 ∷ negsuc 14895 ∷ negsuc 14977 ∷ negsuc 15058 ∷
    negsuc 15136 ∷ negsuc 15212 ∷ negsuc 15285 ∷ negsuc 15356 ∷ negsuc 15425 ∷ negsuc 15492 ∷ negsuc 15556 ∷ negsuc 15618 ∷ negsuc 15678 ∷ negsuc 15735 ∷ negsuc 15790 ∷ negsuc 15842 ∷ negsuc 15892 ∷ negsuc 15940 ∷ negsuc 15985 ∷ negsuc 16028 ∷
    negsuc 16068 ∷ negsuc 16106 ∷ negsuc 16142 ∷ negsuc 16175 ∷ negsuc 16206 ∷ negsuc 16234 ∷ negsuc 16260 ∷ negsuc 16283 ∷ negsuc 16304 ∷ negsuc 16323 ∷ negsuc 16339 ∷ negsuc 16352 ∷ negsuc 16363 ∷ negsuc 16372 ∷ negsuc 16378 ∷ negsuc 16382 ∷
    negsuc 16383 ∷ negsuc 16382 ∷ negsuc 16378 ∷ negsuc 16372 ∷ negsuc 16363 ∷ negsuc 16352 ∷ negsuc 16339 ∷ negsuc 16323 ∷ negsuc 16304 ∷ negsuc 16283 ∷ negsuc 16260 ∷ negsuc 16234 ∷ negsuc 16206 ∷ negsuc 16175 ∷ negsuc 16142 ∷ negsuc 16106 ∷
    negsuc 16068 ∷ negsuc 16028 ∷ negsuc 15985 ∷ negsuc 15940 ∷ negsuc 15892 ∷ negsuc 15842 ∷ negsuc 15790 ∷ negsuc 15735 ∷ negsuc 15678 ∷ negsuc 15618 ∷ negsuc 15556 ∷ negsuc 15492 ∷ negsuc 15425 ∷ negsuc 15356 ∷ negsuc 15285 ∷ negsuc 15212 ∷
    negsuc 15136 ∷ negsuc 15058 ∷ negsuc 14977 ∷ negsuc 14895 ∷ negsuc 14810 ∷ negsuc 14723 ∷ negsuc 14634 ∷ negsuc 14542 ∷ negsuc 14448 ∷ negsuc 14353 ∷ negsuc 14255 ∷ negsuc 14154 ∷ negsuc 14052 ∷ negsuc 13948 ∷ negsuc 13841 ∷ negsuc 13732 ∷
    negsuc 13622 ∷ negsuc 13509 ∷ negsuc 13394 ∷ negsuc 13278 ∷ negsuc 13159 ∷ negsuc 13038 ∷ negsuc 12915 ∷ negsuc 12791 ∷ negsuc 12664 ∷ negsuc 12536 ∷ negsuc 12405 ∷ negsuc 12273 ∷ negsuc 12139 ∷ negsuc 12003 ∷ negsuc 11865 ∷ negsuc 11726 ∷
    negsuc 11584 ∷ negsuc 11441 ∷ negsuc 11296 ∷ negsuc 11150 ∷ negsuc 11002 ∷ negsuc 10852 ∷ negsuc 10701 ∷ negsuc 10548 ∷ negsuc 10393 ∷ negsuc 10237 ∷ negsuc 10079 ∷ negsuc 9920 ∷ negsuc 9759 ∷ negsuc 9597 ∷ negsuc 9433 ∷ negsuc 9268 ∷
    negsuc 9101 ∷ negsuc 8934 ∷ negsuc 8764 ∷ negsuc 8594 ∷ negsuc 8422 ∷ negsuc 8249 ∷ negsuc 8075 ∷ negsuc 7899 ∷ negsuc 7722 ∷ negsuc 7544 ∷ negsuc 7365 ∷ negsuc 7185 ∷ negsuc 7004 ∷ negsuc 6822 ∷ negsuc 6638 ∷ negsuc 6454 ∷
    negsuc 6269 ∷ negsuc 6083 ∷ negsuc 5896 ∷ negsuc 5707 ∷ negsuc 5519 ∷ negsuc 5329 ∷ negsuc 5138 ∷ negsuc 4947 ∷ negsuc 4755 ∷ negsuc 4562 ∷ negsuc 4369 ∷ negsuc 4175 ∷ negsuc 3980 ∷ negsuc 3785 ∷ negsuc 3589 ∷ negsuc 3392 ∷
    negsuc 3195 ∷ negsuc 2998 ∷ negsuc 2800 ∷ negsuc 2602 ∷ negsuc 2403 ∷ negsuc 2204 ∷ negsuc 2005 ∷ negsuc 1805 ∷ negsuc 1605 ∷ negsuc 1405 ∷ negsuc 1204 ∷ negsuc 1004 ∷ negsuc 803 ∷ negsuc 602 ∷ negsuc 401 ∷ negsuc 200 ∷
    pos 0 ∷ pos 201 ∷ pos 402 ∷ pos 603 ∷ pos 804 ∷ pos 1005 ∷ pos 1205 ∷ pos 1406 ∷ pos 1606 ∷ pos 1806 ∷ pos 2006 ∷ pos 2205 ∷ pos 2404 ∷ pos 2603 ∷ pos 2801 ∷ pos 2999 ∷
    pos 3196 ∷ pos 3393 ∷ pos 3590 ∷ pos 3786 ∷ pos 3981 ∷ pos 4176 ∷ pos 4370 ∷ pos 4563 ∷ pos 4756 ∷ pos 4948 ∷ pos 5139 ∷ pos 5330 ∷ pos 5520 ∷ pos 5708 ∷ pos 5897 ∷ pos 6084 ∷
    pos 6270 ∷ pos 6455 ∷ pos 6639 ∷ pos 6823 ∷ pos 7005 ∷ pos 7186 ∷ pos 7366 ∷ pos 7545 ∷ pos 7723 ∷ pos 7900 ∷ pos 8076 ∷ pos 8250 ∷ pos 8423 ∷ pos 8595 ∷ pos 8765 ∷ pos 8935 ∷
    pos 9102 ∷ pos 9269 ∷ pos 9434 ∷ pos 9598 ∷ pos 9760 ∷ pos 9921 ∷ pos 10080 ∷ pos 10238 ∷ pos 10394 ∷ pos 10549 ∷ pos 10702 ∷ pos 10853 ∷ pos 11003 ∷ pos 11151 ∷ pos 11297 ∷ pos 11442 ∷
    pos 11585 ∷ pos 11727 ∷ pos 11866 ∷ pos 12004 ∷ pos 12140 ∷ pos 12274 ∷ pos 12406 ∷ pos 12537 ∷ pos 12665 ∷ pos 12792 ∷ pos 12916 ∷ pos 13039 ∷ pos 13160 ∷ pos 13279 ∷ pos 13395 ∷ pos 13510 ∷
    pos 13623 ∷ pos 13733 ∷ pos 13842 ∷ pos 13949 ∷ pos 14053 ∷ pos 14155 ∷ pos 14256 ∷ pos 14354 ∷ pos 14449 ∷ pos 14543 ∷ pos 14635 ∷ pos 14724 ∷ pos 14811 ∷ pos 14896 ∷ pos 14978 ∷ pos 15059 ∷
    pos 15137 ∷ pos 15213 ∷ pos 15286 ∷ pos 15357 ∷ pos 15426 ∷ pos 15493 ∷ pos 15557 ∷ pos 15619 ∷ pos 15679 ∷ pos 15736 ∷ pos 15791 ∷ pos 15843 ∷ pos 15893 ∷ pos 15941 ∷ pos 15986 ∷ pos 16029 ∷
    pos 16069 ∷ pos 16107 ∷ pos 16143 ∷ pos 16176 ∷ pos 16207 ∷ pos 16235 ∷ pos 16261 ∷ pos 16284 ∷ pos 16305 ∷ pos 16324 ∷ pos 16340 ∷ pos 16353 ∷ pos 16364 ∷ pos 16373 ∷ pos 16379 ∷ pos 16383 ∷ []

-- mean LSPs (LSP_DC_PREDICTED_FREQ_Q15; §2.6)
unfoldable pub mean_lsps : List ℤ
mean_lsps =
    pos 3131 ∷ pos 4721 ∷ pos 7690 ∷ pos 10806 ∷ pos 13872 ∷ pos 16495 ∷ pos 19752 ∷ pos 22260 ∷ pos 25484 ∷ pos 27718 ∷ []

-- gains of the fixed codebook, before they are doubled (FIXED_CODEBOOK_GAIN_Q15; §2.13, §2.14)
unfoldable pub gains : List ℕ
gains =
    1 ∷ 2 ∷ 3 ∷ 4 ∷ 6 ∷ 9 ∷ 13 ∷ 18 ∷ 26 ∷ 38 ∷ 55 ∷ 80 ∷ 115 ∷ 166 ∷ 240 ∷ 348 ∷ 502 ∷ 726 ∷ 1050 ∷ 1517 ∷ 2193 ∷ 3170 ∷ 4582 ∷ 6623 ∷ []

-- weights of position codes, row after row (MPMLQ_COMBINATORIAL; §2.13, used in §2.15, §2.17)
unfoldable pub weights : List ℕ
weights =
    118755 ∷ 98280 ∷ 80730 ∷ 65780 ∷ 53130 ∷ 42504 ∷ 33649 ∷ 26334 ∷ 20349 ∷ 15504 ∷ 11628 ∷ 8568 ∷ 6188 ∷ 4368 ∷ 3003 ∷ 2002 ∷ 1287 ∷ 792 ∷ 462 ∷ 252 ∷ 126 ∷ 56 ∷ 21 ∷ 6 ∷ 1 ∷ 0 ∷ 0 ∷ 0 ∷ 0 ∷ 0 ∷
    23751 ∷ 20475 ∷ 17550 ∷ 14950 ∷ 12650 ∷ 10626 ∷ 8855 ∷ 7315 ∷ 5985 ∷ 4845 ∷ 3876 ∷ 3060 ∷ 2380 ∷ 1820 ∷ 1365 ∷ 1001 ∷ 715 ∷ 495 ∷ 330 ∷ 210 ∷ 126 ∷ 70 ∷ 35 ∷ 15 ∷ 5 ∷ 1 ∷ 0 ∷ 0 ∷ 0 ∷ 0 ∷
    3654 ∷ 3276 ∷ 2925 ∷ 2600 ∷ 2300 ∷ 2024 ∷ 1771 ∷ 1540 ∷ 1330 ∷ 1140 ∷ 969 ∷ 816 ∷ 680 ∷ 560 ∷ 455 ∷ 364 ∷ 286 ∷ 220 ∷ 165 ∷ 120 ∷ 84 ∷ 56 ∷ 35 ∷ 20 ∷ 10 ∷ 4 ∷ 1 ∷ 0 ∷ 0 ∷ 0 ∷
    406 ∷ 378 ∷ 351 ∷ 325 ∷ 300 ∷ 276 ∷ 253 ∷ 231 ∷ 210 ∷ 190 ∷ 171 ∷ 153 ∷ 136 ∷ 120 ∷ 105 ∷ 91 ∷ 78 ∷ 66 ∷ 55 ∷ 45 ∷ 36 ∷ 28 ∷ 21 ∷ 15 ∷ 10 ∷ 6 ∷ 3 ∷ 1 ∷ 0 ∷ 0 ∷
    29 ∷ 28 ∷ 27 ∷ 26 ∷ 25 ∷ 24 ∷ 23 ∷ 22 ∷ 21 ∷ 20 ∷ 19 ∷ 18 ∷ 17 ∷ 16 ∷ 15 ∷ 14 ∷ 13 ∷ 12 ∷ 11 ∷ 10 ∷ 9 ∷ 8 ∷ 7 ∷ 6 ∷ 5 ∷ 4 ∷ 3 ∷ 2 ∷ 1 ∷ 0 ∷
    1 ∷ 1 ∷ 1 ∷ 1 ∷ 1 ∷ 1 ∷ 1 ∷ 1 ∷ 1 ∷ 1 ∷ 1 ∷ 1 ∷ 1 ∷ 1 ∷ 1 ∷ 1 ∷ 1 ∷ 1 ∷ 1 ∷ 1 ∷ 1 ∷ 1 ∷ 1 ∷ 1 ∷ 1 ∷ 1 ∷ 1 ∷ 1 ∷ 1 ∷ 1 ∷ []

-- zeros and poles of the formant postfilter, in 32768ths (POSTFILTER_ZERO_Q15, POSTFILTER_POLE_Q15; §2.18, used in §3.8)
unfoldable pub postfilter_zeros : List ℤ
postfilter_zeros =
    pos 21299 ∷ pos 13844 ∷ pos 8999 ∷ pos 5849 ∷ pos 3802 ∷ pos 2471 ∷ pos 1606 ∷ pos 1044 ∷ pos 679 ∷ pos 441 ∷ []

unfoldable pub postfilter_poles : List ℤ
postfilter_poles =
    pos 24576 ∷ pos 18432 ∷ pos 13824 ∷ pos 10368 ∷ pos 7776 ∷ pos 5832 ∷ pos 4374 ∷ pos 3281 ∷ pos 2460 ∷ pos 1845 ∷ []
