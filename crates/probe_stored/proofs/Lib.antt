mod Probing
