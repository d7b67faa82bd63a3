mod Linkable
