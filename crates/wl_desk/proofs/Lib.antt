mod Nexts
