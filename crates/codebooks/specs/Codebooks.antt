-- The codebooks of the LSP index (document 02, E1; §2.6; the Rust's LSP_CODEBOOK_BAND0_Q13, BAND1 and BAND2): a row after the other. Their entries are added to LSPs as they stand, although the Rust's names say 8192ths.
use Rattle.std.specs.Prelude.{List, [], ◌∷◌, ◌++◌, ℕ, ◌+◌, ◌*◌, ℤ, pos, negsuc}
use Rattle.integers.specs.Base.{entry, tabulate}
use Rattle.tables.specs.Constants.{band0_size, band1_size, band2_size}

-- ---- the three tables

-- LSPs 0 to 2: 256 rows of three
unfoldable pub band0 : List ℤ
band0 =
    pos 0 ∷ pos 0 ∷ pos 0 ∷ negsuc 269 ∷ negsuc 1371 ∷ negsuc 1031 ∷ negsuc 540 ∷ negsuc 1649 ∷ negsuc 1381 ∷ negsuc 722 ∷ negsuc 2010 ∷ negsuc 2212 ∷
    negsuc 940 ∷ negsuc 1121 ∷ negsuc 1941 ∷ negsuc 779 ∷ negsuc 1144 ∷ negsuc 2453 ∷ negsuc 883 ∷ negsuc 1308 ∷ negsuc 1372 ∷ negsuc 1050 ∷ negsuc 1522 ∷ negsuc 1765 ∷
    negsuc 1082 ∷ negsuc 1621 ∷ negsuc 2299 ∷ negsuc 776 ∷ negsuc 1376 ∷ negsuc 2146 ∷ negsuc 934 ∷ negsuc 1466 ∷ negsuc 2762 ∷ negsuc 801 ∷ negsuc 1326 ∷ negsuc 3470 ∷
    negsuc 934 ∷ negsuc 1958 ∷ negsuc 3998 ∷ negsuc 239 ∷ negsuc 88 ∷ pos 222 ∷ negsuc 660 ∷ negsuc 256 ∷ negsuc 159 ∷ negsuc 993 ∷ negsuc 465 ∷ negsuc 418 ∷
    negsuc 187 ∷ negsuc 163 ∷ negsuc 277 ∷ negsuc 341 ∷ negsuc 511 ∷ negsuc 414 ∷ negsuc 606 ∷ negsuc 510 ∷ negsuc 796 ∷ pos 16 ∷ pos 19 ∷ negsuc 715 ∷
    pos 374 ∷ pos 425 ∷ negsuc 971 ∷ negsuc 345 ∷ pos 245 ∷ negsuc 281 ∷ negsuc 264 ∷ pos 506 ∷ negsuc 753 ∷ negsuc 619 ∷ negsuc 146 ∷ pos 1955 ∷
    negsuc 741 ∷ negsuc 859 ∷ pos 2597 ∷ negsuc 149 ∷ negsuc 351 ∷ pos 2704 ∷ pos 305 ∷ pos 880 ∷ pos 1954 ∷ pos 123 ∷ pos 731 ∷ pos 2766 ∷
    negsuc 347 ∷ pos 765 ∷ pos 3327 ∷ pos 618 ∷ pos 221 ∷ pos 3258 ∷ negsuc 177 ∷ negsuc 46 ∷ pos 4219 ∷ pos 393 ∷ pos 1304 ∷ pos 3842 ∷
    pos 698 ∷ pos 1702 ∷ pos 4801 ∷ pos 63 ∷ negsuc 583 ∷ pos 1229 ∷ negsuc 214 ∷ negsuc 731 ∷ pos 1704 ∷ pos 172 ∷ negsuc 334 ∷ pos 1909 ∷
    negsuc 1 ∷ pos 216 ∷ pos 1797 ∷ pos 353 ∷ pos 127 ∷ pos 2205 ∷ negsuc 1207 ∷ pos 188 ∷ pos 11 ∷ negsuc 512 ∷ negsuc 74 ∷ negsuc 682 ∷
    negsuc 972 ∷ pos 222 ∷ negsuc 645 ∷ negsuc 615 ∷ negsuc 842 ∷ negsuc 387 ∷ negsuc 949 ∷ negsuc 1112 ∷ negsuc 358 ∷ negsuc 1430 ∷ negsuc 622 ∷ negsuc 704 ∷
    negsuc 1397 ∷ negsuc 1062 ∷ negsuc 177 ∷ negsuc 44 ∷ negsuc 460 ∷ pos 35 ∷ negsuc 8 ∷ negsuc 656 ∷ negsuc 215 ∷ pos 127 ∷ negsuc 1077 ∷ pos 95 ∷
    negsuc 949 ∷ negsuc 1155 ∷ pos 584 ∷ negsuc 1479 ∷ negsuc 1493 ∷ pos 449 ∷ negsuc 119 ∷ negsuc 704 ∷ pos 516 ∷ negsuc 367 ∷ negsuc 960 ∷ pos 727 ∷
    negsuc 377 ∷ negsuc 525 ∷ pos 973 ∷ negsuc 792 ∷ negsuc 613 ∷ pos 676 ∷ negsuc 800 ∷ negsuc 754 ∷ pos 1287 ∷ negsuc 1475 ∷ negsuc 339 ∷ pos 1636 ∷
    negsuc 504 ∷ negsuc 1253 ∷ pos 1543 ∷ negsuc 1242 ∷ negsuc 1621 ∷ pos 1532 ∷ negsuc 775 ∷ negsuc 1476 ∷ negsuc 654 ∷ negsuc 1150 ∷ negsuc 1295 ∷ negsuc 822 ∷
    negsuc 1152 ∷ negsuc 1671 ∷ negsuc 1123 ∷ negsuc 1290 ∷ negsuc 2002 ∷ negsuc 1701 ∷ negsuc 621 ∷ negsuc 1282 ∷ pos 57 ∷ negsuc 470 ∷ negsuc 1610 ∷ pos 509 ∷
    negsuc 1059 ∷ negsuc 1569 ∷ negsuc 138 ∷ negsuc 872 ∷ negsuc 2155 ∷ negsuc 535 ∷ negsuc 1715 ∷ negsuc 2020 ∷ negsuc 363 ∷ negsuc 2149 ∷ negsuc 3217 ∷ negsuc 1290 ∷
    negsuc 1247 ∷ negsuc 1944 ∷ negsuc 2903 ∷ negsuc 1214 ∷ negsuc 2632 ∷ negsuc 2854 ∷ pos 167 ∷ negsuc 243 ∷ pos 84 ∷ pos 349 ∷ negsuc 411 ∷ negsuc 216 ∷
    negsuc 39 ∷ negsuc 351 ∷ pos 632 ∷ pos 227 ∷ negsuc 528 ∷ pos 405 ∷ pos 68 ∷ negsuc 382 ∷ negsuc 442 ∷ pos 167 ∷ negsuc 557 ∷ negsuc 705 ∷
    negsuc 274 ∷ negsuc 853 ∷ negsuc 13 ∷ negsuc 350 ∷ negsuc 1088 ∷ negsuc 448 ∷ pos 341 ∷ negsuc 71 ∷ negsuc 288 ∷ pos 603 ∷ negsuc 105 ∷ negsuc 473 ∷
    pos 322 ∷ negsuc 218 ∷ negsuc 648 ∷ pos 179 ∷ negsuc 316 ∷ negsuc 997 ∷ pos 450 ∷ negsuc 290 ∷ negsuc 995 ∷ pos 555 ∷ pos 195 ∷ negsuc 524 ∷
    pos 784 ∷ pos 272 ∷ negsuc 830 ∷ negsuc 147 ∷ negsuc 383 ∷ negsuc 848 ∷ pos 82 ∷ negsuc 535 ∷ negsuc 1356 ∷ pos 238 ∷ negsuc 171 ∷ negsuc 1353 ∷
    pos 422 ∷ negsuc 267 ∷ negsuc 1840 ∷ pos 297 ∷ negsuc 736 ∷ negsuc 2078 ∷ negsuc 110 ∷ negsuc 800 ∷ negsuc 597 ∷ pos 1 ∷ negsuc 667 ∷ negsuc 983 ∷
    negsuc 130 ∷ negsuc 817 ∷ negsuc 1298 ∷ negsuc 328 ∷ negsuc 520 ∷ negsuc 1309 ∷ negsuc 150 ∷ negsuc 777 ∷ negsuc 1833 ∷ negsuc 92 ∷ negsuc 351 ∷ negsuc 1745 ∷
    negsuc 567 ∷ negsuc 639 ∷ negsuc 1820 ∷ negsuc 508 ∷ negsuc 940 ∷ negsuc 2182 ∷ pos 464 ∷ negsuc 814 ∷ negsuc 1249 ∷ pos 79 ∷ negsuc 1132 ∷ negsuc 1596 ∷
    negsuc 183 ∷ negsuc 1352 ∷ negsuc 2122 ∷ negsuc 195 ∷ negsuc 409 ∷ negsuc 2426 ∷ negsuc 191 ∷ negsuc 832 ∷ negsuc 2809 ∷ negsuc 258 ∷ negsuc 1381 ∷ negsuc 3044 ∷
    negsuc 216 ∷ pos 4 ∷ negsuc 1165 ∷ negsuc 799 ∷ negsuc 324 ∷ negsuc 1218 ∷ negsuc 362 ∷ negsuc 829 ∷ negsuc 897 ∷ negsuc 660 ∷ negsuc 1133 ∷ negsuc 959 ∷
    negsuc 385 ∷ negsuc 979 ∷ negsuc 1500 ∷ negsuc 626 ∷ negsuc 1158 ∷ negsuc 1721 ∷ negsuc 902 ∷ negsuc 828 ∷ negsuc 854 ∷ negsuc 684 ∷ negsuc 828 ∷ negsuc 1312 ∷
    negsuc 1064 ∷ negsuc 958 ∷ negsuc 1404 ∷ pos 441 ∷ pos 25 ∷ negsuc 846 ∷ pos 655 ∷ negsuc 26 ∷ negsuc 1180 ∷ pos 1159 ∷ negsuc 109 ∷ negsuc 704 ∷
    pos 856 ∷ pos 253 ∷ negsuc 1670 ∷ pos 415 ∷ pos 404 ∷ negsuc 0 ∷ pos 322 ∷ pos 903 ∷ negsuc 397 ∷ pos 670 ∷ pos 499 ∷ negsuc 291 ∷
    pos 803 ∷ pos 591 ∷ negsuc 609 ∷ pos 1144 ∷ pos 591 ∷ negsuc 813 ∷ pos 717 ∷ pos 183 ∷ pos 393 ∷ pos 857 ∷ pos 381 ∷ pos 106 ∷
    pos 609 ∷ pos 62 ∷ negsuc 26 ∷ pos 792 ∷ pos 198 ∷ negsuc 324 ∷ pos 735 ∷ pos 805 ∷ pos 88 ∷ pos 1142 ∷ pos 812 ∷ pos 78 ∷
    pos 1028 ∷ pos 366 ∷ negsuc 291 ∷ pos 1309 ∷ pos 743 ∷ negsuc 236 ∷ pos 1615 ∷ pos 589 ∷ negsuc 78 ∷ pos 1010 ∷ pos 639 ∷ negsuc 242 ∷
    pos 999 ∷ pos 964 ∷ negsuc 310 ∷ pos 1500 ∷ pos 1137 ∷ negsuc 614 ∷ pos 988 ∷ pos 357 ∷ pos 646 ∷ pos 1227 ∷ pos 667 ∷ pos 683 ∷
    pos 1164 ∷ pos 1565 ∷ pos 894 ∷ pos 1392 ∷ pos 2015 ∷ pos 477 ∷ pos 1138 ∷ pos 533 ∷ pos 250 ∷ pos 1437 ∷ pos 896 ∷ pos 391 ∷
    pos 1765 ∷ pos 1118 ∷ pos 99 ∷ pos 1112 ∷ pos 1090 ∷ pos 802 ∷ pos 1596 ∷ pos 846 ∷ pos 1134 ∷ pos 937 ∷ pos 1161 ∷ pos 279 ∷
    pos 1719 ∷ pos 1254 ∷ pos 683 ∷ pos 1338 ∷ pos 1086 ∷ pos 35 ∷ pos 1419 ∷ pos 1324 ∷ pos 428 ∷ pos 1428 ∷ pos 1524 ∷ pos 40 ∷
    pos 2108 ∷ pos 1594 ∷ pos 89 ∷ pos 1015 ∷ pos 544 ∷ pos 1222 ∷ pos 1121 ∷ pos 925 ∷ pos 1263 ∷ pos 1030 ∷ pos 1318 ∷ pos 1485 ∷
    pos 1295 ∷ pos 789 ∷ pos 1817 ∷ pos 1323 ∷ pos 1272 ∷ pos 1909 ∷ pos 1724 ∷ pos 1237 ∷ pos 1803 ∷ pos 1797 ∷ pos 1689 ∷ pos 858 ∷
    pos 2149 ∷ pos 1367 ∷ pos 1301 ∷ pos 2302 ∷ pos 1867 ∷ pos 761 ∷ pos 2863 ∷ pos 2351 ∷ pos 1053 ∷ pos 52 ∷ pos 163 ∷ negsuc 75 ∷
    pos 230 ∷ pos 309 ∷ negsuc 491 ∷ negsuc 70 ∷ pos 619 ∷ pos 39 ∷ negsuc 217 ∷ pos 856 ∷ pos 499 ∷ negsuc 653 ∷ pos 736 ∷ negsuc 206 ∷
    negsuc 534 ∷ pos 1259 ∷ pos 155 ∷ negsuc 479 ∷ pos 1476 ∷ pos 643 ∷ pos 262 ∷ pos 1081 ∷ pos 102 ∷ pos 309 ∷ pos 1592 ∷ negsuc 181 ∷
    pos 627 ∷ pos 1629 ∷ pos 534 ∷ pos 337 ∷ pos 643 ∷ pos 456 ∷ pos 758 ∷ pos 670 ∷ pos 713 ∷ pos 202 ∷ pos 1126 ∷ pos 658 ∷
    pos 612 ∷ pos 1131 ∷ pos 666 ∷ pos 686 ∷ pos 1223 ∷ pos 1136 ∷ negsuc 130 ∷ pos 377 ∷ pos 525 ∷ pos 42 ∷ pos 708 ∷ pos 907 ∷
    pos 87 ∷ pos 1488 ∷ pos 1035 ∷ pos 432 ∷ pos 2117 ∷ pos 904 ∷ pos 137 ∷ pos 981 ∷ pos 1332 ∷ negsuc 446 ∷ pos 1014 ∷ pos 1136 ∷
    negsuc 838 ∷ pos 1793 ∷ pos 1246 ∷ negsuc 558 ∷ pos 297 ∷ pos 198 ∷ negsuc 849 ∷ pos 685 ∷ pos 446 ∷ negsuc 1272 ∷ pos 632 ∷ pos 826 ∷
    negsuc 400 ∷ negsuc 543 ∷ pos 173 ∷ negsuc 752 ∷ negsuc 792 ∷ pos 144 ∷ negsuc 435 ∷ negsuc 8 ∷ pos 772 ∷ negsuc 114 ∷ negsuc 242 ∷ pos 1310 ∷
    negsuc 669 ∷ negsuc 268 ∷ pos 374 ∷ negsuc 1026 ∷ negsuc 12 ∷ pos 639 ∷ negsuc 886 ∷ negsuc 80 ∷ pos 1137 ∷ negsuc 1276 ∷ negsuc 454 ∷ pos 158 ∷
    negsuc 1410 ∷ negsuc 719 ∷ pos 736 ∷ pos 172 ∷ pos 88 ∷ pos 403 ∷ pos 386 ∷ pos 255 ∷ pos 756 ∷ negsuc 499 ∷ pos 522 ∷ pos 910 ∷
    negsuc 957 ∷ pos 659 ∷ pos 1388 ∷ negsuc 394 ∷ pos 301 ∷ pos 1344 ∷ negsuc 355 ∷ pos 768 ∷ pos 1813 ∷ negsuc 612 ∷ pos 841 ∷ pos 2419 ∷
    pos 445 ∷ negsuc 121 ∷ pos 252 ∷ pos 629 ∷ negsuc 86 ∷ pos 723 ∷ pos 283 ∷ negsuc 252 ∷ pos 870 ∷ pos 456 ∷ negsuc 115 ∷ pos 1381 ∷
    pos 757 ∷ pos 180 ∷ pos 1059 ∷ pos 532 ∷ pos 408 ∷ pos 1509 ∷ pos 947 ∷ pos 288 ∷ pos 1806 ∷ pos 1325 ∷ pos 994 ∷ pos 2524 ∷
    pos 892 ∷ pos 1219 ∷ pos 3023 ∷ pos 1397 ∷ pos 1596 ∷ pos 3406 ∷ pos 1143 ∷ pos 1552 ∷ pos 2546 ∷ pos 1850 ∷ pos 1433 ∷ pos 2710 ∷
    negsuc 9 ∷ pos 134 ∷ pos 1002 ∷ pos 154 ∷ pos 499 ∷ pos 1323 ∷ pos 508 ∷ pos 792 ∷ pos 1117 ∷ pos 509 ∷ pos 1340 ∷ pos 1616 ∷
    pos 762 ∷ pos 862 ∷ pos 1608 ∷ pos 787 ∷ pos 740 ∷ pos 2320 ∷ pos 794 ∷ pos 1727 ∷ pos 1283 ∷ pos 465 ∷ pos 2108 ∷ pos 1660 ∷
    negsuc 119 ∷ pos 1451 ∷ pos 1613 ∷ negsuc 385 ∷ pos 2016 ∷ pos 2169 ∷ pos 891 ∷ pos 1225 ∷ pos 2050 ∷ pos 456 ∷ pos 1480 ∷ pos 2185 ∷
    pos 1493 ∷ pos 1283 ∷ pos 1209 ∷ pos 1397 ∷ pos 1636 ∷ pos 1518 ∷ pos 1776 ∷ pos 1738 ∷ pos 1552 ∷ pos 1572 ∷ pos 1698 ∷ pos 2141 ∷
    pos 1389 ∷ pos 2126 ∷ pos 1271 ∷ pos 1959 ∷ pos 2413 ∷ pos 1119 ∷ pos 1365 ∷ pos 2892 ∷ pos 1505 ∷ pos 2206 ∷ pos 1971 ∷ pos 1623 ∷
    pos 2076 ∷ pos 1950 ∷ pos 2280 ∷ pos 1717 ∷ pos 2291 ∷ pos 1867 ∷ pos 2366 ∷ pos 2515 ∷ pos 1953 ∷ pos 2865 ∷ pos 2838 ∷ pos 2522 ∷
    pos 2535 ∷ pos 3465 ∷ pos 2011 ∷ pos 3381 ∷ pos 4127 ∷ pos 2638 ∷ pos 836 ∷ pos 2667 ∷ pos 2289 ∷ pos 1761 ∷ pos 2773 ∷ pos 2337 ∷
    pos 1415 ∷ pos 3325 ∷ pos 2911 ∷ pos 2354 ∷ pos 3138 ∷ pos 3126 ∷ pos 2659 ∷ pos 4192 ∷ pos 4010 ∷ pos 1048 ∷ pos 1786 ∷ pos 1818 ∷
    pos 1242 ∷ pos 2111 ∷ pos 2240 ∷ pos 1512 ∷ pos 2079 ∷ pos 2780 ∷ pos 1573 ∷ pos 2491 ∷ pos 3138 ∷ pos 2230 ∷ pos 2377 ∷ pos 2782 ∷
    pos 416 ∷ pos 1773 ∷ pos 2704 ∷ pos 725 ∷ pos 2336 ∷ pos 3297 ∷ pos 1252 ∷ pos 2373 ∷ pos 3978 ∷ pos 2094 ∷ pos 2268 ∷ pos 3568 ∷
    pos 2011 ∷ pos 2712 ∷ pos 4528 ∷ pos 1341 ∷ pos 3507 ∷ pos 3876 ∷ pos 1216 ∷ pos 3919 ∷ pos 4922 ∷ pos 1693 ∷ pos 4793 ∷ pos 6012 ∷ []

-- LSPs 3 to 5: 256 rows of three
unfoldable pub band1 : List ℤ
band1 =
    pos 0 ∷ pos 0 ∷ pos 0 ∷ negsuc 2113 ∷ negsuc 1301 ∷ pos 76 ∷ negsuc 2651 ∷ negsuc 1277 ∷ negsuc 1367 ∷ negsuc 2846 ∷ negsuc 827 ∷ negsuc 348 ∷
    negsuc 3811 ∷ negsuc 2189 ∷ negsuc 348 ∷ negsuc 3945 ∷ negsuc 363 ∷ negsuc 448 ∷ negsuc 2724 ∷ negsuc 4491 ∷ negsuc 3606 ∷ negsuc 3494 ∷ negsuc 4763 ∷ negsuc 1743 ∷
    negsuc 50 ∷ negsuc 755 ∷ pos 84 ∷ negsuc 152 ∷ negsuc 1190 ∷ pos 504 ∷ pos 108 ∷ negsuc 1417 ∷ pos 1167 ∷ negsuc 834 ∷ negsuc 895 ∷ pos 390 ∷
    negsuc 568 ∷ negsuc 1701 ∷ pos 87 ∷ negsuc 1150 ∷ negsuc 1817 ∷ pos 933 ∷ negsuc 1825 ∷ negsuc 2546 ∷ pos 411 ∷ negsuc 1841 ∷ negsuc 1817 ∷ pos 1451 ∷
    negsuc 2437 ∷ negsuc 1610 ∷ pos 781 ∷ negsuc 2746 ∷ negsuc 2476 ∷ pos 1311 ∷ negsuc 939 ∷ pos 1252 ∷ pos 477 ∷ negsuc 1628 ∷ pos 1688 ∷ pos 602 ∷
    negsuc 1201 ∷ pos 617 ∷ pos 280 ∷ negsuc 1736 ∷ pos 393 ∷ pos 580 ∷ negsuc 1527 ∷ pos 1077 ∷ pos 1199 ∷ negsuc 2164 ∷ negsuc 160 ∷ pos 1408 ∷
    negsuc 2503 ∷ negsuc 1086 ∷ pos 2371 ∷ negsuc 3457 ∷ negsuc 174 ∷ pos 1395 ∷ negsuc 1396 ∷ negsuc 97 ∷ negsuc 842 ∷ negsuc 2251 ∷ negsuc 176 ∷ negsuc 1148 ∷
    negsuc 1488 ∷ negsuc 725 ∷ negsuc 1282 ∷ negsuc 1557 ∷ negsuc 264 ∷ negsuc 1743 ∷ negsuc 1866 ∷ negsuc 820 ∷ negsuc 1896 ∷ negsuc 2061 ∷ negsuc 1515 ∷ negsuc 2339 ∷
    negsuc 2594 ∷ negsuc 1141 ∷ negsuc 2860 ∷ pos 170 ∷ pos 46 ∷ negsuc 818 ∷ negsuc 192 ∷ negsuc 203 ∷ negsuc 1150 ∷ pos 326 ∷ negsuc 195 ∷ negsuc 1531 ∷
    pos 780 ∷ pos 329 ∷ negsuc 815 ∷ pos 201 ∷ pos 369 ∷ negsuc 1242 ∷ pos 650 ∷ negsuc 208 ∷ negsuc 1059 ∷ pos 1144 ∷ negsuc 14 ∷ negsuc 1215 ∷
    pos 1203 ∷ negsuc 258 ∷ negsuc 1866 ∷ negsuc 889 ∷ negsuc 563 ∷ negsuc 1429 ∷ negsuc 637 ∷ negsuc 851 ∷ negsuc 1920 ∷ pos 177 ∷ negsuc 738 ∷ negsuc 1357 ∷
    negsuc 260 ∷ negsuc 525 ∷ negsuc 1665 ∷ pos 206 ∷ negsuc 406 ∷ negsuc 2254 ∷ pos 338 ∷ negsuc 525 ∷ negsuc 821 ∷ pos 421 ∷ negsuc 1094 ∷ negsuc 1008 ∷
    pos 765 ∷ negsuc 606 ∷ negsuc 1407 ∷ pos 825 ∷ negsuc 1294 ∷ negsuc 2003 ∷ pos 357 ∷ negsuc 904 ∷ negsuc 1814 ∷ negsuc 57 ∷ negsuc 1247 ∷ negsuc 1587 ∷
    negsuc 595 ∷ negsuc 1435 ∷ negsuc 2045 ∷ negsuc 72 ∷ negsuc 1158 ∷ negsuc 2115 ∷ negsuc 114 ∷ negsuc 1381 ∷ negsuc 2580 ∷ negsuc 159 ∷ negsuc 1722 ∷ negsuc 1951 ∷
    negsuc 5 ∷ negsuc 2195 ∷ negsuc 2953 ∷ negsuc 648 ∷ negsuc 1704 ∷ negsuc 2602 ∷ negsuc 616 ∷ negsuc 1452 ∷ negsuc 3281 ∷ negsuc 948 ∷ negsuc 2018 ∷ negsuc 3101 ∷
    negsuc 811 ∷ pos 1544 ∷ pos 1937 ∷ negsuc 1853 ∷ pos 574 ∷ pos 2000 ∷ negsuc 1462 ∷ pos 1140 ∷ pos 2649 ∷ negsuc 2682 ∷ pos 1748 ∷ pos 1452 ∷
    negsuc 2485 ∷ pos 2241 ∷ pos 2523 ∷ pos 783 ∷ pos 1910 ∷ pos 1435 ∷ pos 581 ∷ pos 2682 ∷ pos 1376 ∷ pos 236 ∷ pos 2197 ∷ pos 1885 ∷
    negsuc 452 ∷ pos 2943 ∷ pos 2057 ∷ negsuc 681 ∷ pos 2178 ∷ pos 2565 ∷ negsuc 1341 ∷ pos 3201 ∷ pos 3328 ∷ negsuc 287 ∷ negsuc 183 ∷ pos 262 ∷
    pos 121 ∷ negsuc 148 ∷ negsuc 182 ∷ pos 758 ∷ negsuc 411 ∷ pos 206 ∷ pos 1038 ∷ negsuc 203 ∷ pos 853 ∷ pos 1577 ∷ negsuc 456 ∷ pos 700 ∷
    pos 937 ∷ negsuc 639 ∷ negsuc 566 ∷ pos 1508 ∷ negsuc 527 ∷ negsuc 1023 ∷ negsuc 224 ∷ negsuc 526 ∷ negsuc 426 ∷ negsuc 563 ∷ negsuc 1094 ∷ negsuc 331 ∷
    negsuc 741 ∷ negsuc 352 ∷ negsuc 185 ∷ negsuc 1287 ∷ negsuc 458 ∷ pos 84 ∷ negsuc 1852 ∷ negsuc 483 ∷ negsuc 273 ∷ negsuc 1553 ∷ negsuc 730 ∷ pos 825 ∷
    negsuc 2424 ∷ negsuc 233 ∷ pos 382 ∷ negsuc 1721 ∷ pos 293 ∷ negsuc 270 ∷ negsuc 2514 ∷ pos 425 ∷ negsuc 563 ∷ negsuc 2598 ∷ pos 818 ∷ pos 464 ∷
    negsuc 357 ∷ pos 118 ∷ negsuc 374 ∷ negsuc 612 ∷ pos 198 ∷ negsuc 873 ∷ negsuc 689 ∷ pos 683 ∷ negsuc 323 ∷ negsuc 1351 ∷ pos 1155 ∷ negsuc 167 ∷
    negsuc 1092 ∷ pos 129 ∷ negsuc 323 ∷ negsuc 1183 ∷ pos 611 ∷ negsuc 857 ∷ pos 433 ∷ pos 386 ∷ negsuc 371 ∷ negsuc 119 ∷ pos 486 ∷ negsuc 633 ∷
    pos 234 ∷ pos 851 ∷ negsuc 630 ∷ pos 602 ∷ pos 128 ∷ pos 46 ∷ pos 1099 ∷ pos 410 ∷ pos 159 ∷ pos 715 ∷ negsuc 144 ∷ negsuc 423 ∷
    pos 1198 ∷ negsuc 84 ∷ negsuc 592 ∷ pos 1390 ∷ pos 367 ∷ negsuc 357 ∷ pos 1683 ∷ pos 362 ∷ negsuc 963 ∷ pos 1711 ∷ pos 622 ∷ pos 45 ∷
    pos 2033 ∷ pos 833 ∷ negsuc 382 ∷ pos 2890 ∷ pos 549 ∷ negsuc 505 ∷ pos 7 ∷ pos 401 ∷ pos 52 ∷ pos 72 ∷ pos 811 ∷ pos 415 ∷
    pos 566 ∷ pos 668 ∷ pos 41 ∷ pos 467 ∷ pos 1218 ∷ pos 130 ∷ pos 68 ∷ pos 957 ∷ negsuc 186 ∷ negsuc 24 ∷ pos 1649 ∷ negsuc 102 ∷
    negsuc 660 ∷ pos 260 ∷ pos 214 ∷ negsuc 924 ∷ negsuc 93 ∷ pos 612 ∷ negsuc 320 ∷ negsuc 421 ∷ pos 965 ∷ negsuc 787 ∷ negsuc 671 ∷ pos 1783 ∷
    pos 400 ∷ negsuc 672 ∷ pos 779 ∷ pos 741 ∷ negsuc 594 ∷ pos 1635 ∷ negsuc 160 ∷ pos 307 ∷ pos 657 ∷ negsuc 381 ∷ pos 836 ∷ pos 871 ∷
    negsuc 813 ∷ pos 400 ∷ pos 1223 ∷ pos 364 ∷ pos 606 ∷ pos 1247 ∷ pos 57 ∷ pos 75 ∷ pos 1571 ∷ pos 151 ∷ pos 471 ∷ pos 2287 ∷
    negsuc 80 ∷ pos 1021 ∷ pos 1502 ∷ pos 227 ∷ pos 1470 ∷ pos 1097 ∷ pos 658 ∷ pos 1275 ∷ pos 1653 ∷ pos 664 ∷ pos 1478 ∷ pos 2377 ∷
    pos 263 ∷ negsuc 126 ∷ pos 444 ∷ pos 264 ∷ pos 89 ∷ pos 969 ∷ pos 794 ∷ pos 171 ∷ pos 576 ∷ pos 821 ∷ pos 186 ∷ pos 1226 ∷
    pos 404 ∷ pos 462 ∷ pos 517 ∷ pos 339 ∷ pos 918 ∷ pos 794 ∷ pos 1280 ∷ pos 1423 ∷ pos 196 ∷ pos 1453 ∷ pos 2019 ∷ pos 365 ∷
    pos 1615 ∷ pos 1481 ∷ pos 672 ∷ pos 2394 ∷ pos 1708 ∷ pos 508 ∷ pos 806 ∷ pos 1238 ∷ pos 573 ∷ pos 713 ∷ pos 1158 ∷ pos 1078 ∷
    pos 1285 ∷ pos 1436 ∷ pos 1232 ∷ pos 1790 ∷ pos 1188 ∷ pos 1141 ∷ pos 765 ∷ pos 643 ∷ pos 864 ∷ pos 1032 ∷ pos 797 ∷ pos 1279 ∷
    pos 900 ∷ pos 563 ∷ pos 1827 ∷ pos 1514 ∷ pos 673 ∷ pos 2312 ∷ pos 1544 ∷ pos 1129 ∷ pos 3240 ∷ pos 1469 ∷ pos 1050 ∷ pos 1594 ∷
    pos 1945 ∷ pos 1318 ∷ pos 1988 ∷ pos 2397 ∷ pos 2026 ∷ pos 2060 ∷ pos 3538 ∷ pos 2057 ∷ pos 2620 ∷ pos 1249 ∷ negsuc 117 ∷ pos 74 ∷
    pos 1727 ∷ pos 194 ∷ pos 421 ∷ pos 2078 ∷ negsuc 49 ∷ negsuc 462 ∷ pos 970 ∷ pos 688 ∷ negsuc 431 ∷ pos 1149 ∷ pos 952 ∷ negsuc 109 ∷
    pos 1254 ∷ pos 1275 ∷ negsuc 650 ∷ pos 1386 ∷ pos 929 ∷ pos 401 ∷ pos 1960 ∷ pos 1167 ∷ pos 232 ∷ pos 407 ∷ negsuc 751 ∷ negsuc 242 ∷
    pos 859 ∷ negsuc 1117 ∷ pos 172 ∷ negsuc 226 ∷ negsuc 859 ∷ negsuc 991 ∷ negsuc 795 ∷ negsuc 1174 ∷ negsuc 1379 ∷ pos 8 ∷ negsuc 1281 ∷ negsuc 387 ∷
    pos 353 ∷ negsuc 1780 ∷ negsuc 1036 ∷ negsuc 731 ∷ negsuc 396 ∷ negsuc 806 ∷ negsuc 852 ∷ negsuc 27 ∷ negsuc 1341 ∷ negsuc 1228 ∷ negsuc 1206 ∷ negsuc 1958 ∷
    negsuc 1014 ∷ negsuc 1124 ∷ negsuc 2542 ∷ negsuc 1451 ∷ negsuc 1790 ∷ negsuc 2724 ∷ negsuc 1890 ∷ negsuc 2415 ∷ negsuc 3268 ∷ negsuc 917 ∷ negsuc 1628 ∷ negsuc 782 ∷
    negsuc 579 ∷ negsuc 2154 ∷ negsuc 697 ∷ negsuc 1096 ∷ negsuc 2363 ∷ negsuc 95 ∷ negsuc 1386 ∷ negsuc 1512 ∷ pos 7 ∷ negsuc 1587 ∷ negsuc 2075 ∷ negsuc 663 ∷
    negsuc 1472 ∷ negsuc 2739 ∷ negsuc 783 ∷ negsuc 2377 ∷ negsuc 3148 ∷ negsuc 55 ∷ negsuc 2855 ∷ negsuc 2091 ∷ negsuc 168 ∷ negsuc 3390 ∷ negsuc 3707 ∷ pos 316 ∷
    negsuc 1175 ∷ negsuc 889 ∷ negsuc 613 ∷ negsuc 1943 ∷ negsuc 1060 ∷ negsuc 799 ∷ negsuc 298 ∷ negsuc 1516 ∷ negsuc 999 ∷ negsuc 639 ∷ negsuc 1849 ∷ negsuc 1525 ∷
    negsuc 1453 ∷ negsuc 1535 ∷ negsuc 1232 ∷ negsuc 1889 ∷ negsuc 1954 ∷ negsuc 1755 ∷ negsuc 1085 ∷ negsuc 1920 ∷ negsuc 2121 ∷ negsuc 749 ∷ negsuc 2324 ∷ negsuc 2259 ∷
    negsuc 1324 ∷ negsuc 2412 ∷ negsuc 2672 ∷ negsuc 1113 ∷ negsuc 2541 ∷ negsuc 3458 ∷ negsuc 1340 ∷ negsuc 2900 ∷ negsuc 3962 ∷ negsuc 1159 ∷ negsuc 2225 ∷ negsuc 1392 ∷
    negsuc 1000 ∷ negsuc 2771 ∷ negsuc 1572 ∷ negsuc 1593 ∷ negsuc 2640 ∷ negsuc 1977 ∷ negsuc 1533 ∷ negsuc 3045 ∷ negsuc 2623 ∷ negsuc 2223 ∷ negsuc 2195 ∷ negsuc 674 ∷
    negsuc 2806 ∷ negsuc 3053 ∷ negsuc 1101 ∷ negsuc 2007 ∷ negsuc 2839 ∷ negsuc 1185 ∷ negsuc 1979 ∷ negsuc 3331 ∷ negsuc 1694 ∷ negsuc 1714 ∷ negsuc 3561 ∷ negsuc 504 ∷
    negsuc 2526 ∷ negsuc 3999 ∷ negsuc 1886 ∷ negsuc 2332 ∷ negsuc 2733 ∷ negsuc 2295 ∷ negsuc 3439 ∷ negsuc 2400 ∷ negsuc 3210 ∷ negsuc 2007 ∷ negsuc 3527 ∷ negsuc 3336 ∷
    negsuc 2246 ∷ negsuc 3290 ∷ negsuc 4509 ∷ negsuc 474 ∷ pos 949 ∷ pos 155 ∷ negsuc 148 ∷ pos 1365 ∷ pos 545 ∷ negsuc 756 ∷ pos 1644 ∷ pos 1083 ∷
    negsuc 216 ∷ pos 2053 ∷ pos 1353 ∷ negsuc 1432 ∷ pos 2301 ∷ pos 1462 ∷ pos 495 ∷ pos 1661 ∷ pos 529 ∷ pos 10 ∷ pos 2037 ∷ pos 740 ∷
    pos 2082 ∷ pos 1898 ∷ pos 978 ∷ pos 2831 ∷ pos 2294 ∷ pos 911 ∷ pos 842 ∷ pos 793 ∷ pos 420 ∷ pos 1223 ∷ pos 1023 ∷ pos 863 ∷
    pos 1237 ∷ pos 451 ∷ pos 780 ∷ pos 1744 ∷ pos 708 ∷ pos 822 ∷ pos 1533 ∷ pos 284 ∷ pos 1384 ∷ pos 2135 ∷ pos 609 ∷ pos 1538 ∷
    pos 2305 ∷ pos 626 ∷ pos 540 ∷ pos 2368 ∷ pos 1187 ∷ pos 955 ∷ pos 2586 ∷ pos 1255 ∷ negsuc 6 ∷ pos 3116 ∷ pos 1131 ∷ pos 726 ∷
    pos 3431 ∷ pos 1730 ∷ pos 428 ∷ pos 2734 ∷ pos 1648 ∷ pos 1307 ∷ pos 2988 ∷ pos 1231 ∷ pos 2010 ∷ pos 3523 ∷ pos 2024 ∷ pos 1488 ∷
    pos 1034 ∷ pos 1657 ∷ pos 871 ∷ pos 1206 ∷ pos 2163 ∷ pos 1036 ∷ pos 1807 ∷ pos 2372 ∷ pos 1233 ∷ pos 1808 ∷ pos 1769 ∷ pos 1493 ∷
    pos 1573 ∷ pos 2332 ∷ pos 1779 ∷ pos 1216 ∷ pos 1609 ∷ pos 1866 ∷ pos 1480 ∷ pos 1898 ∷ pos 2513 ∷ pos 465 ∷ pos 2708 ∷ pos 2776 ∷
    pos 771 ∷ pos 3638 ∷ pos 3338 ∷ pos 1869 ∷ pos 2599 ∷ pos 2623 ∷ pos 2825 ∷ pos 2745 ∷ pos 2468 ∷ pos 2638 ∷ pos 2439 ∷ pos 1585 ∷
    pos 2094 ∷ pos 2970 ∷ pos 1308 ∷ pos 2022 ∷ pos 3057 ∷ pos 1999 ∷ pos 3428 ∷ pos 2912 ∷ pos 1816 ∷ pos 4536 ∷ pos 2974 ∷ pos 2129 ∷
    pos 1046 ∷ pos 2563 ∷ pos 2086 ∷ pos 1363 ∷ pos 3562 ∷ pos 2318 ∷ pos 2511 ∷ pos 1891 ∷ pos 2984 ∷ pos 1866 ∷ pos 2306 ∷ pos 3986 ∷
    pos 3272 ∷ pos 2924 ∷ pos 3682 ∷ pos 3146 ∷ pos 3564 ∷ pos 2272 ∷ pos 3592 ∷ pos 3968 ∷ pos 2822 ∷ pos 2431 ∷ pos 3369 ∷ pos 3069 ∷
    pos 1931 ∷ pos 4709 ∷ pos 3090 ∷ pos 2629 ∷ pos 4220 ∷ pos 3986 ∷ pos 4639 ∷ pos 4056 ∷ pos 3664 ∷ pos 4035 ∷ pos 5334 ∷ pos 4912 ∷ []

-- LSPs 6 to 9: 256 rows of four
unfoldable pub band2 : List ℤ
band2 =
    pos 0 ∷ pos 0 ∷ pos 0 ∷ pos 0 ∷ pos 601 ∷ pos 512 ∷ negsuc 541 ∷ pos 334 ∷ pos 428 ∷ pos 1087 ∷ negsuc 483 ∷ negsuc 131 ∷
    pos 652 ∷ pos 622 ∷ negsuc 390 ∷ negsuc 571 ∷ pos 378 ∷ pos 799 ∷ pos 141 ∷ negsuc 859 ∷ pos 1040 ∷ pos 409 ∷ pos 112 ∷ negsuc 553 ∷
    pos 1123 ∷ pos 670 ∷ negsuc 74 ∷ negsuc 846 ∷ pos 1421 ∷ pos 494 ∷ negsuc 314 ∷ negsuc 1094 ∷ pos 787 ∷ pos 1001 ∷ pos 114 ∷ negsuc 459 ∷
    pos 988 ∷ pos 1672 ∷ pos 216 ∷ negsuc 680 ∷ pos 1007 ∷ pos 1241 ∷ negsuc 131 ∷ negsuc 1246 ∷ pos 1073 ∷ pos 399 ∷ pos 186 ∷ negsuc 4 ∷
    pos 1262 ∷ pos 193 ∷ negsuc 693 ∷ negsuc 128 ∷ pos 325 ∷ pos 196 ∷ pos 51 ∷ negsuc 640 ∷ pos 861 ∷ negsuc 58 ∷ pos 350 ∷ negsuc 457 ∷
    pos 1261 ∷ pos 567 ∷ pos 586 ∷ negsuc 345 ∷ pos 1532 ∷ pos 885 ∷ pos 210 ∷ negsuc 516 ∷ pos 2027 ∷ pos 937 ∷ pos 113 ∷ negsuc 791 ∷
    pos 1383 ∷ pos 1064 ∷ pos 334 ∷ pos 38 ∷ pos 1964 ∷ pos 1468 ∷ pos 459 ∷ pos 133 ∷ pos 2062 ∷ pos 1186 ∷ negsuc 97 ∷ negsuc 120 ∷
    pos 2577 ∷ pos 1445 ∷ pos 506 ∷ negsuc 372 ∷ pos 2310 ∷ pos 1682 ∷ negsuc 1 ∷ negsuc 959 ∷ pos 2876 ∷ pos 1939 ∷ pos 765 ∷ pos 138 ∷
    pos 3581 ∷ pos 2360 ∷ pos 649 ∷ negsuc 413 ∷ pos 219 ∷ pos 176 ∷ negsuc 397 ∷ negsuc 308 ∷ pos 434 ∷ negsuc 77 ∷ negsuc 434 ∷ negsuc 879 ∷
    negsuc 343 ∷ pos 301 ∷ pos 265 ∷ negsuc 551 ∷ negsuc 914 ∷ pos 470 ∷ pos 657 ∷ negsuc 379 ∷ pos 419 ∷ negsuc 431 ∷ negsuc 162 ∷ negsuc 452 ∷
    pos 351 ∷ negsuc 952 ∷ pos 8 ∷ negsuc 561 ∷ pos 789 ∷ negsuc 42 ∷ pos 20 ∷ negsuc 957 ∷ pos 302 ∷ negsuc 593 ∷ negsuc 351 ∷ negsuc 1158 ∷
    pos 1040 ∷ pos 108 ∷ negsuc 667 ∷ negsuc 923 ∷ pos 1333 ∷ pos 210 ∷ negsuc 1216 ∷ negsuc 1662 ∷ pos 483 ∷ pos 589 ∷ negsuc 349 ∷ negsuc 1139 ∷
    pos 1003 ∷ pos 824 ∷ negsuc 801 ∷ negsuc 1183 ∷ pos 745 ∷ pos 58 ∷ negsuc 588 ∷ negsuc 1442 ∷ pos 346 ∷ pos 247 ∷ negsuc 914 ∷ negsuc 1682 ∷
    pos 270 ∷ pos 796 ∷ negsuc 719 ∷ negsuc 2042 ∷ pos 1208 ∷ pos 722 ∷ negsuc 221 ∷ negsuc 192 ∷ pos 1486 ∷ pos 1180 ∷ negsuc 411 ∷ negsuc 671 ∷
    pos 1722 ∷ pos 179 ∷ negsuc 68 ∷ negsuc 520 ∷ pos 2047 ∷ pos 860 ∷ negsuc 665 ∷ negsuc 1409 ∷ negsuc 145 ∷ pos 222 ∷ negsuc 280 ∷ negsuc 804 ∷
    negsuc 188 ∷ pos 90 ∷ negsuc 113 ∷ negsuc 1306 ∷ negsuc 151 ∷ pos 1086 ∷ negsuc 240 ∷ negsuc 763 ∷ negsuc 438 ∷ pos 733 ∷ negsuc 600 ∷ negsuc 1301 ∷
    negsuc 832 ∷ negsuc 166 ∷ negsuc 350 ∷ negsuc 600 ∷ negsuc 855 ∷ negsuc 421 ∷ negsuc 410 ∷ negsuc 1058 ∷ negsuc 746 ∷ negsuc 354 ∷ negsuc 581 ∷ negsuc 1643 ∷
    negsuc 836 ∷ pos 210 ∷ negsuc 915 ∷ negsuc 1143 ∷ negsuc 1799 ∷ pos 32 ∷ negsuc 877 ∷ negsuc 1686 ∷ negsuc 47 ∷ negsuc 22 ∷ negsuc 1145 ∷ pos 52 ∷
    negsuc 349 ∷ negsuc 408 ∷ negsuc 1655 ∷ negsuc 363 ∷ pos 265 ∷ negsuc 727 ∷ negsuc 857 ∷ negsuc 576 ∷ pos 458 ∷ negsuc 246 ∷ negsuc 1140 ∷ negsuc 996 ∷
    pos 691 ∷ negsuc 406 ∷ negsuc 1987 ∷ negsuc 1160 ∷ negsuc 65 ∷ negsuc 103 ∷ negsuc 704 ∷ negsuc 1248 ∷ negsuc 430 ∷ negsuc 92 ∷ negsuc 1190 ∷ negsuc 1843 ∷
    pos 203 ∷ negsuc 731 ∷ negsuc 999 ∷ negsuc 1692 ∷ pos 10 ∷ negsuc 831 ∷ negsuc 1845 ∷ negsuc 1818 ∷ pos 493 ∷ negsuc 127 ∷ negsuc 1435 ∷ negsuc 1767 ∷
    pos 488 ∷ negsuc 310 ∷ negsuc 1729 ∷ negsuc 2539 ∷ negsuc 652 ∷ negsuc 531 ∷ negsuc 1149 ∷ negsuc 1171 ∷ negsuc 1085 ∷ negsuc 288 ∷ negsuc 1705 ∷ negsuc 1532 ∷
    negsuc 698 ∷ negsuc 1204 ∷ negsuc 1215 ∷ negsuc 1765 ∷ negsuc 1031 ∷ negsuc 1480 ∷ negsuc 2073 ∷ negsuc 1522 ∷ negsuc 720 ∷ negsuc 1219 ∷ negsuc 2276 ∷ negsuc 2599 ∷
    pos 12 ∷ negsuc 538 ∷ negsuc 1483 ∷ negsuc 1130 ∷ negsuc 39 ∷ negsuc 910 ∷ negsuc 2105 ∷ negsuc 440 ∷ negsuc 470 ∷ negsuc 483 ∷ negsuc 2266 ∷ negsuc 1548 ∷
    negsuc 140 ∷ negsuc 987 ∷ negsuc 3005 ∷ negsuc 1720 ∷ negsuc 1544 ∷ negsuc 2101 ∷ negsuc 582 ∷ pos 342 ∷ negsuc 1382 ∷ negsuc 2771 ∷ negsuc 385 ∷ negsuc 12 ∷
    negsuc 2117 ∷ negsuc 2588 ∷ negsuc 1204 ∷ pos 72 ∷ negsuc 2146 ∷ negsuc 3230 ∷ negsuc 964 ∷ pos 390 ∷ negsuc 2948 ∷ negsuc 3299 ∷ negsuc 620 ∷ pos 637 ∷
    negsuc 3906 ∷ negsuc 4137 ∷ negsuc 864 ∷ pos 803 ∷ negsuc 1286 ∷ negsuc 844 ∷ negsuc 374 ∷ negsuc 547 ∷ negsuc 1415 ∷ negsuc 1168 ∷ negsuc 486 ∷ negsuc 1276 ∷
    negsuc 1399 ∷ negsuc 1689 ∷ negsuc 1026 ∷ negsuc 417 ∷ negsuc 2017 ∷ negsuc 1908 ∷ negsuc 1187 ∷ negsuc 1259 ∷ negsuc 1417 ∷ negsuc 2221 ∷ negsuc 2028 ∷ negsuc 127 ∷
    negsuc 2066 ∷ negsuc 2997 ∷ negsuc 2692 ∷ negsuc 309 ∷ negsuc 949 ∷ negsuc 1027 ∷ negsuc 1537 ∷ pos 185 ∷ negsuc 1615 ∷ negsuc 914 ∷ negsuc 2204 ∷ negsuc 548 ∷
    pos 19 ∷ negsuc 820 ∷ negsuc 1144 ∷ pos 352 ∷ pos 184 ∷ negsuc 1174 ∷ negsuc 1355 ∷ negsuc 626 ∷ negsuc 546 ∷ negsuc 1087 ∷ negsuc 1660 ∷ negsuc 910 ∷
    negsuc 215 ∷ negsuc 1501 ∷ negsuc 2196 ∷ negsuc 947 ∷ negsuc 794 ∷ negsuc 1305 ∷ negsuc 2373 ∷ negsuc 450 ∷ negsuc 923 ∷ negsuc 1888 ∷ negsuc 2795 ∷ negsuc 679 ∷
    negsuc 599 ∷ negsuc 1613 ∷ negsuc 3608 ∷ negsuc 884 ∷ negsuc 2391 ∷ negsuc 2527 ∷ pos 319 ∷ pos 303 ∷ negsuc 2907 ∷ negsuc 2094 ∷ negsuc 309 ∷ pos 573 ∷
    negsuc 3459 ∷ negsuc 2140 ∷ pos 49 ∷ negsuc 112 ∷ negsuc 2230 ∷ negsuc 447 ∷ pos 675 ∷ negsuc 145 ∷ negsuc 2804 ∷ negsuc 531 ∷ pos 1231 ∷ pos 479 ∷
    negsuc 2683 ∷ negsuc 485 ∷ negsuc 199 ∷ pos 611 ∷ negsuc 3524 ∷ negsuc 970 ∷ negsuc 197 ∷ pos 704 ∷ negsuc 3706 ∷ pos 173 ∷ pos 349 ∷ pos 254 ∷
    negsuc 4733 ∷ negsuc 1446 ∷ negsuc 33 ∷ pos 880 ∷ pos 777 ∷ negsuc 511 ∷ pos 114 ∷ negsuc 9 ∷ pos 1250 ∷ negsuc 65 ∷ pos 442 ∷ negsuc 4 ∷
    pos 604 ∷ pos 613 ∷ pos 452 ∷ negsuc 351 ∷ pos 1224 ∷ pos 777 ∷ pos 675 ∷ negsuc 1013 ∷ negsuc 1371 ∷ negsuc 78 ∷ negsuc 1207 ∷ negsuc 237 ∷
    negsuc 2388 ∷ negsuc 16 ∷ negsuc 1156 ∷ negsuc 817 ∷ negsuc 1503 ∷ negsuc 672 ∷ negsuc 1132 ∷ negsuc 1059 ∷ negsuc 1983 ∷ negsuc 798 ∷ negsuc 2004 ∷ negsuc 1972 ∷
    negsuc 2036 ∷ negsuc 797 ∷ negsuc 1067 ∷ negsuc 104 ∷ negsuc 3189 ∷ negsuc 898 ∷ negsuc 1816 ∷ negsuc 193 ∷ negsuc 155 ∷ negsuc 885 ∷ pos 394 ∷ negsuc 317 ∷
    negsuc 257 ∷ negsuc 1282 ∷ pos 551 ∷ pos 202 ∷ negsuc 535 ∷ negsuc 1728 ∷ pos 910 ∷ pos 331 ∷ negsuc 846 ∷ negsuc 1108 ∷ pos 795 ∷ negsuc 162 ∷
    negsuc 1170 ∷ negsuc 1127 ∷ pos 715 ∷ pos 519 ∷ negsuc 1079 ∷ negsuc 1318 ∷ pos 1685 ∷ pos 668 ∷ negsuc 999 ∷ negsuc 1920 ∷ pos 96 ∷ pos 211 ∷
    negsuc 1486 ∷ negsuc 2147 ∷ pos 831 ∷ pos 174 ∷ negsuc 1138 ∷ negsuc 373 ∷ pos 414 ∷ negsuc 3 ∷ negsuc 1516 ∷ negsuc 1382 ∷ pos 396 ∷ negsuc 351 ∷
    negsuc 1011 ∷ pos 439 ∷ negsuc 58 ∷ negsuc 966 ∷ negsuc 1811 ∷ pos 706 ∷ negsuc 439 ∷ negsuc 1029 ∷ negsuc 1970 ∷ negsuc 328 ∷ negsuc 33 ∷ negsuc 826 ∷
    negsuc 2471 ∷ negsuc 1587 ∷ negsuc 150 ∷ negsuc 605 ∷ negsuc 2160 ∷ pos 374 ∷ negsuc 280 ∷ pos 76 ∷ negsuc 3011 ∷ pos 231 ∷ negsuc 14 ∷ negsuc 689 ∷
    pos 1104 ∷ pos 566 ∷ pos 721 ∷ pos 209 ∷ pos 1685 ∷ pos 564 ∷ pos 383 ∷ pos 98 ∷ pos 1898 ∷ pos 750 ∷ pos 792 ∷ negsuc 96 ∷
    pos 556 ∷ negsuc 63 ∷ pos 561 ∷ negsuc 92 ∷ pos 876 ∷ pos 162 ∷ pos 913 ∷ negsuc 21 ∷ pos 961 ∷ pos 675 ∷ pos 1296 ∷ pos 140 ∷
    pos 756 ∷ negsuc 395 ∷ pos 851 ∷ pos 544 ∷ pos 360 ∷ negsuc 302 ∷ pos 1341 ∷ pos 396 ∷ pos 878 ∷ negsuc 21 ∷ pos 1464 ∷ pos 863 ∷
    negsuc 308 ∷ negsuc 272 ∷ pos 642 ∷ negsuc 128 ∷ negsuc 685 ∷ negsuc 81 ∷ pos 842 ∷ pos 454 ∷ negsuc 4 ∷ negsuc 46 ∷ pos 1069 ∷ pos 998 ∷
    negsuc 93 ∷ pos 967 ∷ pos 1277 ∷ pos 298 ∷ negsuc 488 ∷ pos 385 ∷ pos 1473 ∷ pos 746 ∷ negsuc 368 ∷ negsuc 716 ∷ pos 1333 ∷ pos 242 ∷
    pos 281 ∷ negsuc 992 ∷ pos 1726 ∷ pos 924 ∷ pos 464 ∷ pos 601 ∷ pos 1575 ∷ pos 1376 ∷ negsuc 249 ∷ pos 206 ∷ pos 2339 ∷ pos 1175 ∷
    negsuc 437 ∷ pos 377 ∷ negsuc 596 ∷ negsuc 284 ∷ negsuc 1019 ∷ pos 787 ∷ negsuc 789 ∷ negsuc 286 ∷ negsuc 457 ∷ negsuc 409 ∷ pos 215 ∷ pos 295 ∷
    negsuc 588 ∷ negsuc 859 ∷ negsuc 120 ∷ pos 797 ∷ negsuc 1174 ∷ pos 122 ∷ negsuc 436 ∷ pos 466 ∷ negsuc 1479 ∷ negsuc 120 ∷ pos 367 ∷ pos 924 ∷
    pos 234 ∷ pos 323 ∷ pos 770 ∷ negsuc 554 ∷ pos 145 ∷ pos 30 ∷ pos 996 ∷ pos 26 ∷ pos 66 ∷ pos 849 ∷ pos 93 ∷ negsuc 144 ∷
    negsuc 116 ∷ pos 1261 ∷ pos 474 ∷ negsuc 398 ∷ negsuc 1494 ∷ pos 1051 ∷ pos 218 ∷ negsuc 505 ∷ negsuc 1389 ∷ pos 694 ∷ pos 994 ∷ pos 88 ∷
    pos 616 ∷ pos 7 ∷ pos 78 ∷ pos 304 ∷ pos 1060 ∷ pos 52 ∷ negsuc 61 ∷ pos 835 ∷ pos 833 ∷ pos 454 ∷ pos 649 ∷ pos 1359 ∷
    negsuc 769 ∷ pos 464 ∷ pos 47 ∷ pos 93 ∷ negsuc 573 ∷ pos 1199 ∷ negsuc 38 ∷ pos 379 ∷ pos 114 ∷ negsuc 97 ∷ pos 488 ∷ pos 485 ∷
    pos 727 ∷ pos 244 ∷ pos 606 ∷ pos 696 ∷ negsuc 75 ∷ pos 455 ∷ pos 671 ∷ pos 546 ∷ negsuc 564 ∷ negsuc 12 ∷ pos 145 ∷ pos 819 ∷
    negsuc 375 ∷ pos 569 ∷ pos 448 ∷ pos 1128 ∷ pos 218 ∷ pos 122 ∷ pos 265 ∷ pos 1167 ∷ pos 230 ∷ pos 738 ∷ pos 932 ∷ pos 1003 ∷
    pos 138 ∷ pos 477 ∷ pos 36 ∷ pos 450 ∷ pos 404 ∷ pos 787 ∷ negsuc 72 ∷ pos 1000 ∷ pos 497 ∷ pos 1259 ∷ pos 387 ∷ pos 1231 ∷
    pos 17 ∷ pos 207 ∷ pos 195 ∷ negsuc 78 ∷ pos 562 ∷ pos 358 ∷ pos 53 ∷ negsuc 157 ∷ pos 493 ∷ pos 387 ∷ pos 478 ∷ pos 189 ∷
    pos 678 ∷ pos 831 ∷ pos 640 ∷ pos 558 ∷ negsuc 196 ∷ pos 523 ∷ pos 613 ∷ pos 57 ∷ pos 429 ∷ pos 894 ∷ pos 769 ∷ pos 111 ∷
    pos 67 ∷ pos 1174 ∷ pos 568 ∷ pos 511 ∷ pos 1242 ∷ pos 824 ∷ pos 251 ∷ pos 840 ∷ pos 1419 ∷ pos 1074 ∷ pos 864 ∷ pos 481 ∷
    pos 924 ∷ pos 1474 ∷ pos 669 ∷ pos 724 ∷ pos 1539 ∷ pos 1879 ∷ pos 654 ∷ pos 1590 ∷ pos 445 ∷ pos 337 ∷ pos 1111 ∷ pos 541 ∷
    pos 472 ∷ pos 1421 ∷ pos 1264 ∷ pos 1094 ∷ pos 794 ∷ pos 735 ∷ pos 1103 ∷ pos 668 ∷ pos 1055 ∷ pos 863 ∷ pos 1192 ∷ pos 1020 ∷
    pos 778 ∷ pos 1105 ∷ pos 806 ∷ pos 1798 ∷ pos 1052 ∷ pos 1527 ∷ pos 1587 ∷ pos 2151 ∷ pos 881 ∷ pos 1552 ∷ pos 1265 ∷ pos 391 ∷
    pos 726 ∷ pos 872 ∷ pos 1812 ∷ pos 601 ∷ pos 1469 ∷ pos 280 ∷ pos 1008 ∷ pos 616 ∷ pos 1403 ∷ pos 577 ∷ pos 1803 ∷ pos 1244 ∷
    pos 1650 ∷ pos 1314 ∷ pos 1148 ∷ pos 1072 ∷ pos 1297 ∷ pos 1669 ∷ pos 1911 ∷ pos 1026 ∷ pos 2093 ∷ pos 1044 ∷ pos 2115 ∷ pos 1189 ∷
    pos 1644 ∷ pos 1961 ∷ pos 2587 ∷ pos 1512 ∷ pos 25 ∷ negsuc 314 ∷ negsuc 8 ∷ negsuc 105 ∷ pos 290 ∷ negsuc 338 ∷ pos 428 ∷ negsuc 443 ∷
    negsuc 67 ∷ negsuc 782 ∷ pos 735 ∷ pos 772 ∷ pos 245 ∷ negsuc 554 ∷ pos 468 ∷ pos 47 ∷ pos 334 ∷ negsuc 894 ∷ pos 814 ∷ pos 146 ∷
    pos 235 ∷ pos 368 ∷ negsuc 963 ∷ negsuc 958 ∷ negsuc 202 ∷ pos 315 ∷ negsuc 1565 ∷ negsuc 1216 ∷ pos 801 ∷ pos 17 ∷ negsuc 275 ∷ negsuc 353 ∷
    pos 894 ∷ negsuc 494 ∷ negsuc 788 ∷ negsuc 634 ∷ pos 716 ∷ pos 291 ∷ negsuc 1188 ∷ negsuc 356 ∷ pos 560 ∷ negsuc 259 ∷ negsuc 732 ∷ negsuc 1 ∷
    pos 679 ∷ negsuc 507 ∷ negsuc 1428 ∷ pos 211 ∷ negsuc 50 ∷ negsuc 61 ∷ negsuc 427 ∷ pos 557 ∷ pos 322 ∷ negsuc 637 ∷ negsuc 210 ∷ pos 614 ∷
    negsuc 877 ∷ negsuc 1056 ∷ negsuc 83 ∷ negsuc 70 ∷ negsuc 387 ∷ negsuc 1414 ∷ negsuc 166 ∷ negsuc 317 ∷ negsuc 753 ∷ negsuc 1573 ∷ pos 214 ∷ negsuc 538 ∷
    negsuc 1418 ∷ negsuc 2003 ∷ negsuc 91 ∷ negsuc 786 ∷ negsuc 46 ∷ negsuc 855 ∷ negsuc 346 ∷ negsuc 254 ∷ pos 23 ∷ negsuc 1210 ∷ negsuc 172 ∷ pos 320 ∷
    negsuc 657 ∷ negsuc 486 ∷ negsuc 892 ∷ pos 353 ∷ negsuc 782 ∷ negsuc 1586 ∷ negsuc 583 ∷ pos 507 ∷ negsuc 1419 ∷ negsuc 858 ∷ negsuc 377 ∷ pos 441 ∷
    negsuc 2094 ∷ negsuc 1490 ∷ negsuc 136 ∷ pos 439 ∷ negsuc 320 ∷ negsuc 1449 ∷ negsuc 1287 ∷ negsuc 11 ∷ negsuc 358 ∷ negsuc 2112 ∷ negsuc 552 ∷ negsuc 7 ∷
    negsuc 830 ∷ negsuc 1917 ∷ negsuc 1560 ∷ pos 32 ∷ negsuc 1013 ∷ negsuc 2486 ∷ negsuc 1358 ∷ negsuc 938 ∷ negsuc 474 ∷ negsuc 310 ∷ negsuc 168 ∷ negsuc 235 ∷
    negsuc 906 ∷ negsuc 425 ∷ pos 276 ∷ negsuc 610 ∷ negsuc 95 ∷ negsuc 399 ∷ pos 50 ∷ negsuc 709 ∷ negsuc 425 ∷ negsuc 1021 ∷ negsuc 9 ∷ negsuc 984 ∷
    negsuc 196 ∷ negsuc 257 ∷ negsuc 743 ∷ negsuc 574 ∷ negsuc 610 ∷ negsuc 929 ∷ negsuc 770 ∷ negsuc 393 ∷ negsuc 266 ∷ negsuc 775 ∷ negsuc 611 ∷ negsuc 938 ∷
    negsuc 255 ∷ negsuc 1345 ∷ negsuc 801 ∷ negsuc 1121 ∷ negsuc 795 ∷ negsuc 1569 ∷ negsuc 824 ∷ negsuc 753 ∷ pos 712 ∷ pos 876 ∷ pos 141 ∷ pos 227 ∷
    pos 981 ∷ pos 1509 ∷ pos 85 ∷ pos 124 ∷ pos 1462 ∷ pos 1228 ∷ pos 979 ∷ negsuc 38 ∷ pos 1734 ∷ pos 999 ∷ pos 1481 ∷ pos 440 ∷
    pos 2293 ∷ pos 1116 ∷ pos 769 ∷ pos 440 ∷ pos 2504 ∷ pos 1480 ∷ pos 1241 ∷ pos 356 ∷ pos 2474 ∷ pos 1909 ∷ pos 1558 ∷ pos 810 ∷
    pos 917 ∷ pos 1134 ∷ pos 607 ∷ negsuc 133 ∷ pos 509 ∷ pos 1809 ∷ pos 781 ∷ negsuc 122 ∷ pos 1712 ∷ pos 1506 ∷ pos 559 ∷ negsuc 422 ∷
    pos 2037 ∷ pos 2317 ∷ pos 726 ∷ negsuc 154 ∷ pos 3031 ∷ pos 2676 ∷ pos 1203 ∷ pos 331 ∷ pos 3664 ∷ pos 3274 ∷ pos 1768 ∷ pos 531 ∷
    pos 1610 ∷ pos 1839 ∷ pos 867 ∷ pos 183 ∷ pos 1774 ∷ pos 1972 ∷ pos 1538 ∷ pos 97 ∷ pos 1822 ∷ pos 2158 ∷ pos 1282 ∷ pos 659 ∷
    pos 2222 ∷ pos 2758 ∷ pos 1818 ∷ pos 900 ∷ pos 3251 ∷ pos 2124 ∷ pos 1723 ∷ pos 996 ∷ pos 3633 ∷ pos 2336 ∷ pos 2408 ∷ pos 1453 ∷
    pos 2923 ∷ pos 3517 ∷ pos 2567 ∷ pos 1318 ∷ []

-- ---- a row of each

-- row k of a table with n values a row
abbrev pub row : List ℤ → ℕ → ℕ → List ℤ
row table n k = tabulate (λ j. entry table (k * n + j)) n

-- the rows that an index picks, one after the other: ten values
abbrev pub rows : ℕ → ℕ → ℕ → List ℤ
rows row0 row1 row2 = row band0 band0_size row0 ++ (row band1 band1_size row1 ++ row band2 band2_size row2)
